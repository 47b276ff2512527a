-- `plan_picture`, and so `picman_plan` of the library: what it gives, and the record and the plan as it leaves them.
-- Assumes nothing.
use Rattle.std.specs.Prelude.{Result, Ok, Err, ℕ, ◌≤◌, ◌≡◌, Bool, cond, ◌&&◌, List, ◌∷◌, leb, eqb, length}
use Rattle.def.specs.Refusals.{refusal_number}
use Rattle.def.specs.Word.{word_bytes, twos_complement}
use Rattle.def.specs.declared.{EvcPoc.EvcPoc, Refusal.Refusal, SliceType.SliceType}
use Rattle.gop.specs.declared.PicturePlan.{PicturePlan}
use Rattle.gop.specs.Plan.{Planning, plan}
use Rattle.words.specs.Words.{poc_width, flag_byte, poc_bytes, poc_at}

-- The number given, and the two lent buffers.
pub record PlanLeft : Type 0 where
  pub given : ℕ
  pub record_bytes : List ℕ
  pub plan_bytes : List ℕ

abbrev pub plan_left : ℕ → List ℕ → List ℕ → PlanLeft
plan_left n record_bytes plan_bytes = record { given = n; record_bytes = record_bytes; plan_bytes = plan_bytes }

-- Slice type 0 is unknown, 1 I, 2 P and 3 B.
abbrev pub slice_byte : SliceType → ℕ
slice_byte SliceType.EVC_ST_UNKNOWN = 0
slice_byte SliceType.EVC_ST_I = 1
slice_byte SliceType.EVC_ST_P = 2
slice_byte SliceType.EVC_ST_B = 3

-- Seven bytes: slice type, depth, reference flag and the number in four.
abbrev pub plan_width : ℕ
plan_width = 7

abbrev pub plan_bytes : PicturePlan → List ℕ
plan_bytes p =
    slice_byte p.slice_type ∷ p.slice_depth ∷ flag_byte p.slice_ref_flag ∷ word_bytes (twos_complement p.poc_val.0)

-- 0 with the record after and the plan; a refusal writes nothing.
abbrev pub shown_plan : Result PicturePlan Refusal → EvcPoc → List ℕ → List ℕ → PlanLeft
shown_plan (Ok p) r bs ps = plan_left 0 (poc_bytes r) (plan_bytes p)
shown_plan (Err why) r bs ps = plan_left (refusal_number why) bs ps

abbrev pub shown_planning : Planning → List ℕ → List ℕ → PlanLeft
shown_planning x record_bytes plan_bytes = shown_plan x.answer x.poc record_bytes plan_bytes

-- The sizes are right, and the byte for the hierarchy is a flag.
abbrev pub is_plan_call : List ℕ → List ℕ → ℕ → Bool
is_plan_call record_bytes plan_bytes hierarchy = eqb (length record_bytes) poc_width && eqb (length plan_bytes) plan_width && leb hierarchy 1

-- 18 unless they are; otherwise what the planner makes of the record.
unfoldable pub plan_called : ℕ → ℕ → ℕ → ℕ → ℕ → List ℕ → List ℕ → PlanLeft
unfolding plan poc_bytes poc_at
plan_called count gopSize interval inter hierarchy record_bytes plan_bytes =
    cond (is_plan_call record_bytes plan_bytes hierarchy)
    (shown_planning (plan count gopSize interval inter (eqb hierarchy 1) (poc_at record_bytes 0)) record_bytes plan_bytes)
    (plan_left (refusal_number Refusal.BadLine) record_bytes plan_bytes)

-- A plan that is turned down, with any number above 0, leaves both buffers as they were.
abbrev pub PlanKept : Type 0
PlanKept =
    (count gopSize interval inter hierarchy : ℕ) (record_bytes plan_bytes : List ℕ)
    → 1 ≤ (plan_called count gopSize interval inter hierarchy record_bytes plan_bytes).given
    → ((plan_called count gopSize interval inter hierarchy record_bytes plan_bytes).record_bytes ≡ record_bytes)
    × ((plan_called count gopSize interval inter hierarchy record_bytes plan_bytes).plan_bytes ≡ plan_bytes)
