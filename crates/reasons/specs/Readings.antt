-- The smallest inputs that tell the readings of the request apart, with what is said of each: one list, one computed proof.
-- Proof: proofs/Readings.antt.
-- Assumes nothing.
use Rattle.std.specs.Prelude.{ℕ, ◌≡◌, Bool, true, false, List, [], ◌∷◌, map, pos, replicate, Result, Ok, Err}
use Rattle.def.specs.State.{list_places, empty_slot, occupied_by, new_pm, with_store}
use Rattle.def.specs.declared.{Slot.Slot, EvcPm.EvcPm, RefpCall.RefpCall, Refusal.Refusal, SliceType.SliceType}
use Rattle.reasons.specs.declared.Reason.{Reason}
use Rattle.reasons.specs.Reasons.{why}

pub record Reading : Type 0 where
  pub given : Result Reason Refusal
  pub said : Result Reason Refusal

-- A picture of this number and layer in this buffer, marked or not.
abbrev pub picture_in : ℕ → Bool → ℕ → ℕ → Slot
picture_in buf isRef poc layer =
    occupied_by (record { poc = poc; is_ref = isRef; need_for_out = false; temporal_id = layer; list_poc = replicate list_places 0 }) buf

-- Two pictures, in slots 0 and 1, and so many of them marked.
abbrev pub two_pictures : Slot → Slot → ℕ → EvcPm
two_pictures a b refs = with_store new_pm (a ∷ b ∷ replicate 25 empty_slot) empty_slot 2 refs

-- Marked pictures of these numbers and layers.
abbrev pub two_marked : ℕ → ℕ → ℕ → ℕ → EvcPm
two_marked poc layer poc' layer' = two_pictures (picture_in 0 true poc layer) (picture_in 1 true poc' layer') 2

abbrev pub list_call : SliceType → ℕ → ℕ → ℕ → ℕ → RefpCall
list_call slice poc layer intra limit =
    record { slice_type = slice; poc = poc; layer_id = layer; last_intra = pos intra; max_num_ref_pics = limit }

abbrev pub unknown : SliceType
unknown = SliceType.EVC_ST_UNKNOWN

abbrev pub I : SliceType
I = SliceType.EVC_ST_I

abbrev pub P : SliceType
P = SliceType.EVC_ST_P

abbrev pub B : SliceType
B = SliceType.EVC_ST_B

abbrev pub reason_told : EvcPm → RefpCall → ℕ → Reason → Reading
reason_told pm c slot r = record { given = why pm c slot; said = Ok r }

abbrev pub refusal_told : EvcPm → RefpCall → ℕ → Refusal → Reading
refusal_told pm c slot r = record { given = why pm c slot; said = Err r }

-- Stored counts that do not match: not whole.
abbrev pub broken_state : EvcPm
broken_state = two_pictures (picture_in 0 true 0 0) (picture_in 1 true 4 0) 1

unfoldable pub readings : List Reading
unfolding why
readings =
    -- the list call's refusals come first, 11 among them, for an empty and a missing slot too
    refusal_told (two_marked 0 0 4 0) (list_call P 8 0 5 2) 0 Refusal.ForwardListEmpty
    ∷ refusal_told (two_marked 0 0 4 0) (list_call P 8 0 5 2) 1 Refusal.ForwardListEmpty
    ∷ refusal_told (two_marked 0 0 4 0) (list_call P 8 0 5 2) 2 Refusal.ForwardListEmpty
    ∷ refusal_told (two_marked 0 0 4 0) (list_call P 8 0 5 2) 27 Refusal.ForwardListEmpty
    -- slice I: 7, 6, 14, then no list asked; with limit 0, marked or not
    ∷ refusal_told broken_state (list_call I 2147483648 0 0 0) 2 Refusal.StateNotWhole
    ∷ refusal_told (two_marked 0 0 4 0) (list_call I 2147483648 0 0 0) 2 Refusal.NumberTooHigh
    ∷ refusal_told (two_marked 0 0 4 0) (list_call I 8 0 0 0) 2 Refusal.NoSuchPlace
    ∷ refusal_told (two_marked 0 0 4 0) (list_call I 8 0 0 0) 27 Refusal.NoSuchPlace
    ∷ reason_told (two_marked 0 0 4 0) (list_call I 8 0 0 0) 0 Reason.NoListAsked
    ∷ reason_told (two_pictures (picture_in 0 false 0 0) (picture_in 1 false 4 0) 0) (list_call I 8 0 0 0) 0 Reason.NoListAsked
    -- an accepted call, and no picture
    ∷ refusal_told (two_marked 0 0 4 0) (list_call P 8 0 0 2) 2 Refusal.NoSuchPlace
    ∷ refusal_told (two_marked 0 0 4 0) (list_call P 8 0 0 2) 27 Refusal.NoSuchPlace
    -- not marked before full
    ∷ reason_told (two_pictures (picture_in 0 false 0 0) (picture_in 1 true 4 0) 1) (list_call P 8 0 0 1) 0 Reason.NotMarked
    -- full before old
    ∷ reason_told (two_marked 0 0 4 0) (list_call P 8 0 4 1) 0 Reason.Full
    ∷ reason_told (two_marked 0 0 4 0) (list_call P 8 0 4 2) 0 Reason.Old
    -- nothing is old for P above layer 0
    ∷ reason_told (two_marked 0 2 4 0) (list_call P 8 1 4 2) 0 Reason.LayerOverBound
    -- P above layer 1 takes any layer first, and then layers 0 and 1
    ∷ reason_told (two_marked 0 5 4 5) (list_call P 8 2 0 2) 1 (Reason.Taken 0)
    ∷ reason_told (two_marked 0 5 4 5) (list_call P 8 2 0 2) 0 Reason.LayerOverBound
    -- same number before side; unknown takes the lower side only, and for B no side is left out
    ∷ reason_told (two_marked 0 0 4 0) (list_call P 4 0 0 2) 1 Reason.SameNumber
    ∷ reason_told (two_marked 0 0 4 0) (list_call P 3 0 0 2) 1 Reason.OtherSide
    -- at its own turn the list is empty, though it is full at the pass's end
    ∷ reason_told (two_marked 0 0 4 0) (list_call P 3 0 0 1) 1 Reason.OtherSide
    ∷ reason_told (two_marked 0 0 4 0) (list_call unknown 3 0 0 2) 1 Reason.OtherSide
    ∷ reason_told (two_marked 0 0 4 0) (list_call B 3 0 0 2) 1 (Reason.Taken 1)
    -- the higher side of B is judged in the pass upwards, and the place is in the whole list
    ∷ reason_told (two_marked 0 0 8 0) (list_call B 4 1 0 1) 1 Reason.Full
    ∷ reason_told (two_marked 0 0 8 0) (list_call B 4 1 0 2) 0 (Reason.Taken 0)
    ∷ reason_told (two_marked 0 0 8 0) (list_call B 4 1 0 2) 1 (Reason.Taken 1)
    -- taken by picture and not by number
    ∷ reason_told (two_marked 4 1 4 1) (list_call B 2 2 0 2) 1 (Reason.Taken 0)
    ∷ reason_told (two_marked 4 1 4 1) (list_call B 2 2 0 2) 0 Reason.LayerOverBound
    ∷ []

abbrev pub ReadingsHold : Type 0
ReadingsHold = map (λ (r : Reading). r.given) readings ≡ map (λ (r : Reading). r.said) readings
