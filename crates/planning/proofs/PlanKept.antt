-- A plan that is turned down leaves both lent buffers. Assumes nothing.
use Prim.Native.Nat.{ℕ, ◌≤◌}
use native.Mathlib.Omega.{arith}
use mathlib.Core.Path.{◌≡◌, refl}
use mathlib.Core.Bool.{Bool, true, false, cond}
use mathlib.Core.List.{List}
use lib.Dec.{eqb}
use Rattle.def.specs.Refusals.{refusal_number}
use Rattle.def.specs.declared.{EvcPoc.EvcPoc, Refusal.Refusal}
use Rattle.std.specs.Prelude.{Result, Ok, Err}
use Rattle.gop.specs.declared.PicturePlan.{PicturePlan}
use Rattle.gop.specs.Plan.{Planning, plan}
use Rattle.words.specs.Words.{poc_at}
use Rattle.planning.specs.Planned.{PlanLeft, plan_left, shown_plan, shown_planning, is_plan_call, plan_called, PlanKept}

abbrev Kept : List ℕ → List ℕ → PlanLeft → Type 0
Kept bs ps x = 1 ≤ x.given → (x.record_bytes ≡ bs) × (x.plan_bytes ≡ ps)

shown-kept : (a : Result PicturePlan Refusal) (r : EvcPoc) (bs ps : List ℕ) → Kept bs ps (shown_plan a r bs ps)
shown-kept (Ok p) r bs ps h = absurd (omega arith)
shown-kept (Err why) r bs ps h = (refl, refl)

tested-kept : (b : Bool) (x : Planning) (bs ps : List ℕ) → Kept bs ps (cond b (shown_planning x bs ps) (plan_left (refusal_number Refusal.BadLine) bs ps))
tested-kept true x bs ps h = shown-kept x.answer x.poc bs ps h
tested-kept false x bs ps h = (refl, refl)

pub plan-kept : PlanKept
unfolding plan_called
plan-kept count gopSize interval inter hierarchy bs ps h =
    tested-kept (is_plan_call bs ps hierarchy) (plan count gopSize interval inter (eqb hierarchy 1) (poc_at bs 0)) bs ps h
