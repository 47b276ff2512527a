-- The question why as bytes: the bytes of a list call's line and a slot, of the state of an image or of the running machine. What is given, and
-- the two lent bytes as they are left.
-- Assumes nothing.
use Rattle.std.specs.Prelude.{ℕ, Bool, cond, ◌&&◌, List, [], ◌∷◌, eqb, length, Option, Some, None, Result, Ok, Err}
use Rattle.def.specs.Refusals.{refusal_number}
use Rattle.def.specs.declared.{EvcPm.EvcPm, RefpCall.RefpCall, Refusal.Refusal}
use Rattle.line.specs.declared.{Call.Call}
use Rattle.line.specs.Calls.{call_from}
use Rattle.image.specs.Image.{pm_of, is_image}
use Rattle.reasons.specs.declared.Reason.{Reason}
use Rattle.reasons.specs.Reasons.{why}
use Rattle.machine.specs.Step.{refp_call_of}
use Rattle.machine.specs.Lent.{Slices, machine_at, sized}

-- ---- what is asked

-- The call of a list request; every other call, and a bad one, asks nothing here.
abbrev pub question_of : Call → Option RefpCall
question_of (Call.Init size refs) = None
question_of Call.GetEmptyPic = None
question_of (Call.PutPic flags poc tid gap) = None
question_of Call.OutPic = None
question_of (Call.RefpInit slice poc layer intra limit) = Some (refp_call_of slice poc layer intra limit)
question_of (Call.PocDerivation L t) = None

abbrev pub question_in : Option Call → Option RefpCall
question_in (Some call) = question_of call
question_in None = None

-- ---- what is left

pub record WhyLeft : Type 0 where
  pub given : ℕ
  pub reason : List ℕ

abbrev pub why_left : ℕ → List ℕ → WhyLeft
why_left n reason = record { given = n; reason = reason }

-- The number of a reason, and the place in the list, 0 where there is none: two bytes.
abbrev pub reason_number : Reason → ℕ
reason_number (Reason.Taken n) = 0
reason_number Reason.NotMarked = 1
reason_number Reason.Full = 2
reason_number Reason.Old = 3
reason_number Reason.SameNumber = 4
reason_number Reason.OtherSide = 5
reason_number Reason.LayerOverBound = 6
reason_number Reason.NoListAsked = 7

abbrev pub place_told : Reason → ℕ
place_told (Reason.Taken n) = n
place_told Reason.NotMarked = 0
place_told Reason.Full = 0
place_told Reason.Old = 0
place_told Reason.SameNumber = 0
place_told Reason.OtherSide = 0
place_told Reason.LayerOverBound = 0
place_told Reason.NoListAsked = 0

abbrev pub reason_length : ℕ
reason_length = 2

abbrev pub reason_bytes : Reason → List ℕ
reason_bytes r = reason_number r ∷ place_told r ∷ []

-- 0 with the reason; a refusal writes nothing.
abbrev pub shown_why : Result Reason Refusal → List ℕ → WhyLeft
shown_why (Ok r) reason = why_left 0 (reason_bytes r)
shown_why (Err r) reason = why_left (refusal_number r) reason

abbrev pub bad_why : List ℕ → WhyLeft
bad_why reason = why_left (refusal_number Refusal.BadLine) reason

abbrev pub why_asked : EvcPm → Option RefpCall → ℕ → List ℕ → WhyLeft
why_asked pm (Some c) slot reason = shown_why (why pm c slot) reason
why_asked pm None slot reason = bad_why reason

-- ---- of an image, and of the running machine

-- 18 unless the state's form, the size of the reason and the call fit.
abbrev pub if_fits : Bool → EvcPm → Option Call → ℕ → List ℕ → WhyLeft
if_fits fit pm line slot reason = cond (fit && eqb (length reason) reason_length) (why_asked pm (question_in line) slot reason) (bad_why reason)

unfoldable pub why_of_image : List ℕ → List ℕ → ℕ → List ℕ → WhyLeft
unfolding is_image pm_of call_from why
why_of_image image call slot reason = if_fits (is_image image) (pm_of image) (call_from call) slot reason

unfoldable pub why_of_slices : Slices → List ℕ → ℕ → List ℕ → WhyLeft
unfolding call_from why
why_of_slices s call slot reason = if_fits (sized s) (machine_at s).pm (call_from call) slot reason
