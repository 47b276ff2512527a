-- Why a picture of the state is or is not in the forward list that a list call builds. A picture has its turn in one pass of the list; the
-- reason is the earliest of a row of conditions on how far that pass has come by then.
-- Assumes nothing.
use Rattle.std.specs.Prelude.{ℕ, Bool, cond, not, ◌&&◌, List, [], ◌∷◌, leb, ltb, eqb, length, get_or, Result, Ok, Err}
use Rattle.def.specs.State.{highest_poc, no_slot, is_present, is_marked}
use Rattle.def.specs.declared.{Slot.Slot, EvcPm.EvcPm, RefpCall.RefpCall, Refusal.Refusal}
use Rattle.whole.specs.Whole.{whole}
use Rattle.ordering.specs.Order.{Key, key_of, down}
use Rattle.passes.specs.declared.Direction.{Direction}
use Rattle.passes.specs.Passes.{Ask, Progress, walked, takes_key, pass_on, pass}
use Rattle.ruling.specs.Rules.{ask_of}
use Rattle.choosing.specs.Choice.{Chosen, turned_down, chosen, is_b, choice}
use Rattle.refp.specs.Lists.{is_i}
use Rattle.reasons.specs.declared.Reason.{Reason}

-- ---- a picture's turn

-- A picture on the higher side of a slice that takes both sides has its turn in the pass upwards, any other in the pass down.
abbrev pub turn_of : Bool → ℕ → Key → Direction
turn_of both poc k = cond (both && ltb poc k.poc) Direction.Up Direction.Down

-- The pictures that come before the one of a slot.
unfoldable pub in_front : ℕ → List Key → List Key
in_front slot [] = []
in_front slot (k ∷ ks) = cond (eqb k.slot slot) [] (k ∷ in_front slot ks)

-- Where a pass of the forward list begins: downwards on the empty list, upwards on the list that the pass down left. The bound is reset.
abbrev pub begun : Ask → Direction → List Key → List Key
begun a Direction.Down ks = []
begun a Direction.Up ks = pass a Direction.Down ks []

abbrev pub pass_begins : Ask → Direction → List Key → Progress
pass_begins a way ks = record { list = begun a way ks; bound = a.start }

-- How far its pass has come when the picture of a slot has its turn: over the pictures before it.
unfoldable pub at_turn : Ask → Direction → ℕ → List Key → Progress
unfolding in_front pass pass_on
at_turn a way slot ks = pass_on a way (pass_begins a way ks) (in_front slot (walked way ks))

-- ---- the reason

-- On a side that is not taken: only a slice that takes both sides takes the higher one.
abbrev pub other_side : Bool → ℕ → Key → Bool
other_side both poc k = not both && ltb poc k.poc

-- The row: taken, at the list's end; not marked; full; old; same number; other side; layer over the bound. The last has no test of its own,
-- and holds all the same where it is given (`EachExactly` in Claims.antt).
abbrev pub judged : Ask → Bool → Bool → Direction → ℕ → ℕ → Key → Reason
judged a both marked way cnt bound k =
    cond (marked && takes_key a way cnt bound k) (Reason.Taken cnt)
    (cond (not marked) Reason.NotMarked
    (cond (leb a.limit cnt) Reason.Full
    (cond (a.old k) Reason.Old
    (cond (eqb k.poc a.poc) Reason.SameNumber
    (cond (other_side both a.poc k) Reason.OtherSide
    Reason.LayerOverBound)))))

-- The same of a key and the order that it stands in, by how far its pass has come at its turn.
unfoldable pub judged_at : RefpCall → Bool → List Key → Key → Reason
unfolding at_turn
judged_at c marked ks k =
    let both = is_b c.slice_type in
    let way = turn_of both c.poc k in
    let p = at_turn (ask_of c) way k.slot ks in
    judged (ask_of c) both marked way (length p.list) p.bound k

-- The key of a slot's picture, whether or not it is marked.
abbrev pub key_at : List Slot → ℕ → Key
key_at xs slot = key_of slot (get_or xs slot no_slot)

unfoldable pub reason_for : RefpCall → List Slot → ℕ → Reason
unfolding down judged_at
reason_for c xs slot = judged_at c (is_marked (get_or xs slot no_slot)) (down xs) (key_at xs slot)

-- ---- the answer

-- No such place (14): the slot is empty or missing.
abbrev pub of_slot : List Slot → ℕ → Reason → Result Reason Refusal
of_slot xs slot r = cond (is_present (get_or xs slot no_slot)) (Ok r) (Err Refusal.NoSuchPlace)

abbrev pub if_chosen : Chosen → Result Reason Refusal → Result Reason Refusal
if_chosen (turned_down why) answer = Err why
if_chosen (chosen fwd bwd) answer = answer

-- On a whole state: number too high (6); slice I asks for no list; else what the choice of the lists is turned down with (8, 9, 11), then 14.
unfoldable pub why_whole : List Slot → RefpCall → ℕ → Result Reason Refusal
unfolding down choice reason_for
why_whole xs c slot =
    cond (ltb highest_poc c.poc) (Err Refusal.NumberTooHigh)
    (cond (is_i c.slice_type) (of_slot xs slot Reason.NoListAsked)
    (if_chosen (choice c (down xs)) (of_slot xs slot (reason_for c xs slot))))

-- State not whole (7) first.
unfoldable pub why : EvcPm → RefpCall → ℕ → Result Reason Refusal
unfolding whole why_whole
why pm c slot = cond (not (whole pm)) (Err Refusal.StateNotWhole) (why_whole pm.pic c slot)
