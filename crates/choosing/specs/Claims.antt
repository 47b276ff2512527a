-- What is claimed of the choice beyond the contract, by example. Proof: proofs/Claims.antt.
-- Assumes nothing.
use Rattle.std.specs.Prelude.{◌≡◌, [], ◌∷◌, negsuc}
use Rattle.def.specs.declared.{RefpCall.RefpCall, SliceType.SliceType, Refusal.Refusal}
use Rattle.passes.specs.Claims.{key_at}
use Rattle.choosing.specs.Choice.{turned_down, choice}

-- A call for B at number 4, layer 1, with last intra -1.
abbrev pub at_four : RefpCall
at_four = record { slice_type = SliceType.EVC_ST_B; poc = 4; layer_id = 1; last_intra = negsuc 0; max_num_ref_pics = 21 }

-- For example: where only the picture's own number is marked, both passes take nothing, and the empty forward list is 11 for B too.
abbrev pub EmptyIsEleven : Type 0
EmptyIsEleven = choice at_four (key_at 4 0 ∷ []) ≡ turned_down Refusal.ForwardListEmpty
