-- What was chosen, and the whole answer. Assumes nothing.
use Rattle.std.proofs.Common.{Result, Err}
use mathlib.Core.Path.{◌≡◌, sym}
use mathlib.Core.Bool.{true, false}
use mathlib.Core.List.{List}
use Prim.Native.Nat.{ℕ, ◌≤◌, ◌<◌}
use native.Mathlib.Omega.{arith}
use lib.ListN.{length, length-map}
use borrow.Author.Tests.{lt-ltb, le-ltb}
use Rattle.def.specs.State.{list_places, highest_poc}
use Rattle.def.specs.declared.{Slot.Slot, RefpCall.RefpCall, Refusal.Refusal}
use Rattle.ordering.specs.Order.{Key, down}
use Rattle.ordering.specs.InNumbers.{key_in, keys_in}
use Rattle.choosing.specs.Choice.{chosen, choice}
use Rattle.choosing.proofs.Accepted.{accepted}
use Rattle.refp.specs.Lists.{is_i}
use Rattle.reasons.specs.declared.Reason.{Reason}
use Rattle.reasons.specs.Reasons.{reason_for, of_slot, if_chosen, why_whole}

-- ---- the whole answer

module _ (xs : List Slot) (c : RefpCall) (slot : ℕ) where
  pub answers-high : highest_poc < c.poc → Err Refusal.NumberTooHigh ≡ why_whole xs c slot
  unfolding why_whole
  answers-high h = rw (lt-ltb highest_poc c.poc h)

  module _ (fits : c.poc ≤ highest_poc) where
    pub answers-i : {r : Result Reason Refusal} → is_i c.slice_type ≡ true → r ≡ of_slot xs slot Reason.NoListAsked → r ≡ why_whole xs c slot
    unfolding why_whole
    answers-i i e = rw (le-ltb highest_poc c.poc fits, i) e

    pub answers-choice : {r : Result Reason Refusal} → is_i c.slice_type ≡ false
        → r ≡ if_chosen (choice c (down xs)) (of_slot xs slot (reason_for c xs slot)) → r ≡ why_whole xs c slot
    unfolding why_whole
    answers-choice i e = rw (le-ltb highest_poc c.poc fits, i) e

-- as many keys as a list has places, where lists were chosen on them
pub chosen-few : (c : RefpCall) (ns : List ℕ) {fwd bwd : List Key} → chosen fwd bwd ≡ choice c (keys_in ns) → length ns ≤ list_places
chosen-few c ns {fwd} {bwd} e =
    let a = accepted c (keys_in ns) fwd bwd (sym e) in
    let l = a.at_most in
    let n = length-map ns key_in in
    omega arith
