-- A group as it is planned: the counts of one length, the first of them a multiple of it, in their order and with the hierarchy on.
-- Assumes nothing.
use Rattle.std.specs.Prelude.{ℕ, zero, suc, ◌+◌, ◌-◌, ◌%◌, ◌≤◌, ◌<◌, ◌≡◌, Bool, true, false, not, eqb, ℤ, pos, Result, Ok, Err}
use mathlib.Core.List.{List, [], ◌∷◌, map, Memᴰ}
use Rattle.seq.specs.Lists.{Distinct, Once}
use Rattle.def.specs.declared.{EvcPoc.EvcPoc, Refusal.Refusal, SliceType.SliceType}
use Rattle.tbl.specs.DepthRows.{is_gop_size}
use Rattle.poc.specs.PictureNumber.{max_poc}
use Rattle.poc.specs.Distance.{Step, accepted_steps, layer_of, AfterKey, Between, Apart}
use Rattle.poc.specs.FullRun.{full_run}
use Rattle.gop.specs.declared.PicturePlan.{PicturePlan}
use Rattle.gop.specs.Plan.{Planning, is_key, derived_plan, plan}

-- n counts planned in turn, each on the record that the last one left.
unfoldable pub plans_from : ℕ → ℕ → ℕ → ℕ → ℕ → EvcPoc → List Planning
unfolding plan
plans_from zero count length interval inter r = []
plans_from (suc n) count length interval inter r =
    let x = plan count length interval inter true r in
    x ∷ plans_from n (count + 1) length interval inter x.poc

abbrev pub is_planned : Planning → Bool
is_planned x = accepts x.answer
  where
    accepts : Result PicturePlan Refusal → Bool
    accepts (Ok p) = true
    accepts (Err why) = false

-- A plan turned down has no number, and 0 stands for it where nothing reads it.
abbrev pub planned_number : Planning → ℤ
planned_number x = shown x.answer
  where
    shown : Result PicturePlan Refusal → ℤ
    shown (Ok p) = p.poc_val.0
    shown (Err why) = pos 0

-- The plan that a derivation in a group of 2^L makes: its depth is one more than the layer, and the last depth is no reference.
abbrev pub plan_of : SliceType → ℕ → Step → Planning
plan_of inter L s = derived_plan inter (layer_of s + 1) (not (eqb (layer_of s + 1) (L + 1))) s.answer s.after

-- p is a multiple of the group's length, key picture or not, and no count between it and the next multiple is a key picture.
pub record Group (length interval p : ℕ) : Type 0 where
  pub is_length : is_gop_size length ≡ true
  pub multiple : p % length ≡ 0
  pub highest : p ≤ max_poc
  pub no_key : (j : ℕ) → 1 ≤ j → j < length → is_key (p + j) interval ≡ false

-- The plan of the multiple p stands as the picture of layer 0, and the later plans are a full run of the distance rule, of length
-- 2^L, behind it: all are accepted, all numbers differ, and each whole number strictly between p - 2^L and p is met exactly once.
-- `are` and `apart` give the rule's conclusions whole: the plans are those of the derivations of the one full run.
pub record PlannedRun (L p : ℕ) (inter : SliceType) (first : Planning) (later : List Planning) : Type 0 where
  pub first_planned : is_planned first ≡ true
  pub first_number : planned_number first ≡ pos p
  pub first_record : AfterKey p first.poc
  pub planned : (x : Planning) → Memᴰ x later → is_planned x ≡ true
  pub differ : Distinct (map planned_number (first ∷ later))
  pub within : (x : Planning) → Memᴰ x later → Between L p (planned_number x)
  pub each_once : (n : ℤ) → Between L p n → Once n (map planned_number later)
  pub are : later ≡ map (plan_of inter L) (accepted_steps first.poc (full_run L))
  pub apart : Apart L p (accepted_steps first.poc (full_run L))

-- The group that begins at p, on any record at all: the plan of p, and those of the counts behind it.
abbrev pub first_of : ℕ → ℕ → ℕ → ℕ → EvcPoc → Planning
first_of p length interval inter r = plan p length interval inter true r

abbrev pub later_of : ℕ → ℕ → ℕ → ℕ → EvcPoc → List Planning
later_of p length interval inter r = plans_from (length - 1) (p + 1) length interval inter (first_of p length interval inter r).poc
