-- A refusal writes nothing. Assumes nothing.
use Rattle.std.specs.Prelude.{Option}
use Rattle.std.proofs.Common.{Result, Ok, Err}
use Prim.Native.Nat.{ℕ, ◌≤◌}
use mathlib.Core.Path.{◌≡◌, refl}
use mathlib.Core.Bool.{Bool, true, false, cond, ◌&&◌}
use mathlib.Core.List.{List}
use native.Mathlib.Omega.{arith}
use lib.Dec.{eqb}
use lib.ListN.{length}
use Rattle.def.specs.declared.{EvcPm.EvcPm, RefpCall.RefpCall}
use Rattle.def.specs.declared.EvcPm.{EvcPm}
use Rattle.line.specs.declared.Call.{Call}
use Rattle.line.specs.Calls.{call_from}
use Rattle.image.specs.Image.{pm_of, is_image}
use Rattle.def.specs.declared.Refusal.{Refusal}
use Rattle.reasons.specs.declared.Reason.{Reason}
use Rattle.reasons.specs.Reasons.{why}
use Rattle.machine.specs.Lent.{machine_at, sized}
use Rattle.std.specs.Prelude.{Option, Some, None}
use Rattle.questions.specs.Asked.{question_in, reason_length, shown_why, why_asked, bad_why, if_fits, why_of_image, why_of_slices}
use Rattle.questions.specs.Claims.{ImageWhyKept, SlicesWhyKept}

shown-kept : (a : Result Reason Refusal) (reason : List ℕ) → 1 ≤ (shown_why a reason).given → (shown_why a reason).reason ≡ reason
shown-kept (Ok r) reason h = absurd (omega arith)
shown-kept (Err r) reason h = refl

asked-kept : (pm : EvcPm) (q : Option RefpCall) (slot : ℕ) (reason : List ℕ) → 1 ≤ (why_asked pm q slot reason).given → (why_asked pm q slot reason).reason ≡ reason
asked-kept pm (Some c) slot reason h = shown-kept (why pm c slot) reason h
asked-kept pm None slot reason h = refl

fits_kept : (fit : Bool) (pm : EvcPm) (line : Option Call) (slot : ℕ) (reason : List ℕ)
    → 1 ≤ (if_fits fit pm line slot reason).given → (if_fits fit pm line slot reason).reason ≡ reason
fits_kept fit pm line slot reason = pick (fit && eqb (length reason) reason_length)
  where
    pick : (b : Bool) → let x = cond b (why_asked pm (question_in line) slot reason) (bad_why reason) in 1 ≤ x.given → x.reason ≡ reason
    pick true h = asked-kept pm (question_in line) slot reason h
    pick false h = refl

pub image-why-kept : ImageWhyKept
unfolding why_of_image
image-why-kept image call slot reason h = fits_kept (is_image image) (pm_of image) (call_from call) slot reason h

pub slices-why-kept : SlicesWhyKept
unfolding why_of_slices
slices-why-kept s call slot reason h = fits_kept (sized s) (machine_at s).pm (call_from call) slot reason h
