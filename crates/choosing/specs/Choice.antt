-- What a list call takes from an ordered list of keys, decided before anything is written: the pictures of both lists, or why it is turned down.
-- Assumes nothing.
use Rattle.std.specs.Prelude.{◌≤◌, ◌≡◌, Bool, true, false, cond, List, [], ltb, eqb, length}
use Rattle.def.specs.State.{list_places}
use Rattle.def.specs.declared.{RefpCall.RefpCall, SliceType.SliceType, Refusal.Refusal}
use Rattle.passes.specs.declared.Walk.{Walk}
use Rattle.ordering.specs.Order.{Key}
use Rattle.passes.specs.Passes.{list_of}
use Rattle.ruling.specs.Rules.{ask_of}

pub data Chosen : Type 0 where
  turned_down : Refusal → Chosen
  chosen : List Key → List Key → Chosen

abbrev pub is_b : SliceType → Bool
is_b SliceType.EVC_ST_UNKNOWN = false
is_b SliceType.EVC_ST_I = false
is_b SliceType.EVC_ST_P = false
is_b SliceType.EVC_ST_B = true

-- The forward list of P and of unknown takes lower numbers downwards; that of B too, and then higher ones upwards.
abbrev pub forward_walk : SliceType → Walk
forward_walk SliceType.EVC_ST_UNKNOWN = Walk.Down
forward_walk SliceType.EVC_ST_I = Walk.Down
forward_walk SliceType.EVC_ST_P = Walk.Down
forward_walk SliceType.EVC_ST_B = Walk.DownThenUp

abbrev pub forward_of : RefpCall → List Key → List Key
forward_of c ks = list_of (ask_of c) (forward_walk c.slice_type) ks

-- The backward list, of B alone: higher numbers upwards first, then lower ones downwards.
abbrev pub backward_of : RefpCall → List Key → List Key
backward_of c ks = list_of (ask_of c) Walk.UpThenDown ks

-- The forward list is empty (11), or both lists are chosen; slices other than B have no backward list. That of B has an entry wherever the
-- forward list has one (`BackwardHasEntry` of crate `passes`), so nothing is asked of it.
abbrev pub with_forward : Bool → List Key → List Key → Chosen
with_forward both bwd fwd = cond (eqb (length fwd) 0) (turned_down Refusal.ForwardListEmpty) (chosen fwd (cond both bwd []))

-- More than 21 are marked (8), none is marked (9), and then the lists. Slice I asks for no list and does not come here.
unfoldable pub choice : RefpCall → List Key → Chosen
choice c ks =
    cond (ltb list_places (length ks)) (turned_down Refusal.TooManyReferences)
    (cond (eqb (length ks) 0) (turned_down Refusal.NoReferences)
    (with_forward (is_b c.slice_type) (backward_of c ks) (forward_of c ks)))

-- ---- what it means that lists were chosen

-- The backward list of B, or none.
pub data Backward (c : RefpCall) (ks bwd : List Key) : Type 0 where
  of_b : is_b c.slice_type ≡ true → backward_of c ks ≡ bwd → (length bwd ≡ 0 → ⊥) → Backward c ks bwd
  of_other : is_b c.slice_type ≡ false → bwd ≡ [] → Backward c ks bwd

-- From 1 to 21 are marked, the forward list is what its passes come to and has an entry, and so has the backward list of B.
pub record Accepted (c : RefpCall) (ks fwd bwd : List Key) : Type 0 where
  pub at_most : length ks ≤ list_places
  pub some : length ks ≡ 0 → ⊥
  pub forward_is : forward_of c ks ≡ fwd
  pub forward_some : length fwd ≡ 0 → ⊥
  pub backward_is : Backward c ks bwd
