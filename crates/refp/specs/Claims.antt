-- What is claimed of every list call and of every copy. Each claim has its proof under its own name: proofs/ListLaws.antt, proofs/CopyLaws.antt.
-- Assumes nothing.
use Rattle.std.specs.Prelude.{ℕ, ◌+◌, ◌*◌, ◌≤◌, ◌<◌, ◌≡◌, true, false, ◌⊎◌, ◌↔◌, length, get_or, set, Ok, Err}
use mathlib.Core.List.{List, [], map, Memᴰ}
use Rattle.seq.specs.Lists.{count_if, Distinct}
use Rattle.def.specs.State.{list_places, highest_poc, no_ref_p, is_marked, with_counts}
use Rattle.def.specs.declared.{EvcPm.EvcPm, EvcRefP.EvcRefP, RefpCall.RefpCall, Answer.Answer, Refusal.Refusal}
use Rattle.def.specs.Results.{RefpResult}
use Rattle.whole.specs.Whole.{whole}
use Rattle.ordering.specs.Order.{Key, down, MarkedKey}
use Rattle.choosing.specs.Choice.{forward_of, Accepted}
use Rattle.refp.specs.Lists.{entry_of, dropped, is_i, lists_refused, lists}
use Rattle.refp.specs.Copy.{first_entries, copy}

-- ---- each refusal of a list call under its condition, and under no other

-- The state is whole, the number fits, and a list is asked for.
pub record Asked (pm : EvcPm) (c : RefpCall) : Type 0 where
  pub is_whole : whole pm ≡ true
  pub number_fits : c.poc ≤ highest_poc
  pub not_i : is_i c.slice_type ≡ false

-- From 1 to 21 are marked.
pub record SomeMarked (pm : EvcPm) (c : RefpCall) : Type 0 where
  pub asked : Asked pm c
  pub at_most : count_if is_marked pm.pic ≤ list_places
  pub some : count_if is_marked pm.pic ≡ 0 → ⊥

pub data ListsReason (pm : EvcPm) (c : RefpCall) : Refusal → Type 0 where
  not_whole : whole pm ≡ false → ListsReason pm c Refusal.StateNotWhole
  too_high : whole pm ≡ true → highest_poc < c.poc → ListsReason pm c Refusal.NumberTooHigh
  too_many_marked : Asked pm c → list_places < count_if is_marked pm.pic → ListsReason pm c Refusal.TooManyReferences
  none_marked : Asked pm c → count_if is_marked pm.pic ≡ 0 → ListsReason pm c Refusal.NoReferences
  forward_empty : SomeMarked pm c → forward_of c (down pm.pic) ≡ [] → ListsReason pm c Refusal.ForwardListEmpty

abbrev pub ListsWhy : Type 0
ListsWhy = (pm : EvcPm) (refp : List EvcRefP) (c : RefpCall) (why : Refusal) → ((lists pm refp c).answer ≡ Err why) ↔ ListsReason pm c why

-- ---- what becomes of the state

-- A call that is turned down changes neither state nor lists, a state that is not whole among them.
abbrev pub ListsRefusedUnchanged : Type 0
ListsRefusedUnchanged =
    (pm : EvcPm) (refp : List EvcRefP) (c : RefpCall) (why : Refusal) → (lists pm refp c).answer ≡ Err why
    → lists pm refp c ≡ lists_refused why pm refp

-- A whole state stays whole.
abbrev pub ListsStayWhole : Type 0
ListsStayWhole = (pm : EvcPm) (refp : List EvcRefP) (c : RefpCall) → whole pm ≡ true → whole (lists pm refp c).pm ≡ true

-- Nothing but the two counts of the state changes.
abbrev pub OnlyCounts : Type 0
OnlyCounts =
    (pm : EvcPm) (refp : List EvcRefP) (c : RefpCall)
    → (lists pm refp c).pm ≡ with_counts pm (lists pm refp c).pm.num_refp_0 (lists pm refp c).pm.num_refp_1

-- ---- what the built lists are

-- The keys of a list are those of marked slots, no slot twice, at most as many as the list limit and 21.
pub record Holds (pm : EvcPm) (c : RefpCall) (ks : List Key) : Type 0 where
  pub marked : (k : Key) → Memᴰ k ks → MarkedKey pm.pic k
  pub each_once : Distinct (map (λ (k : Key). k.slot) ks)
  pub within_limit : length ks ≤ c.max_num_ref_pics
  pub within_list : length ks ≤ list_places

-- What the passes took, in order, is what stands in the lists: the counts are those of the keys, the entries their pictures, and the entries
-- from a count on hold no picture and keep the rest.
pub record Built (pm : EvcPm) (refp : List EvcRefP) (c : RefpCall) (r : RefpResult) : Type 0 where
  pub fwd : List Key
  pub bwd : List Key
  pub of_passes : Accepted c (down pm.pic) fwd bwd
  pub forward_holds : Holds pm c fwd
  pub backward_holds : Holds pm c bwd
  pub answer_shows : r.answer ≡ Ok (Answer.Counts (length fwd) (length bwd))
  pub forward_count : r.pm.num_refp_0 ≡ length fwd
  pub backward_count : r.pm.num_refp_1 ≡ length bwd
  pub forward_entry : (j : ℕ) (d : Key) → j < length fwd → get_or r.refp j no_ref_p ≡ entry_of pm.pic (get_or fwd j d)
  pub forward_behind : (j : ℕ) → length fwd ≤ j → j < list_places → get_or r.refp j no_ref_p ≡ dropped (get_or refp j no_ref_p)
  pub backward_entry : (j : ℕ) (d : Key) → j < length bwd → get_or r.refp (list_places + j) no_ref_p ≡ entry_of pm.pic (get_or bwd j d)
  pub backward_behind : (j : ℕ) → length bwd ≤ j → j < list_places → get_or r.refp (list_places + j) no_ref_p ≡ dropped (get_or refp (list_places + j) no_ref_p)
  pub refp_long : length r.refp ≡ list_places + list_places

-- Every accepted call other than for slice I builds such lists.
abbrev pub ListsBuilt : Type 0
ListsBuilt =
    (pm : EvcPm) (refp : List EvcRefP) (c : RefpCall) (f b : ℕ) → length refp ≡ list_places + list_places → is_i c.slice_type ≡ false
    → (lists pm refp c).answer ≡ Ok (Answer.Counts f b) → Built pm refp c (lists pm refp c)

-- ---- the copy

-- There is no such place: count over 20, or list not 0 or 1. Same number: one of the first entries of the list has it.
pub data CopyReason (refp : List EvcRefP) (cnt lidx : ℕ) (src : EvcRefP) : Refusal → Type 0 where
  no_place : (20 < cnt) ⊎ (1 < lidx) → CopyReason refp cnt lidx src Refusal.NoSuchPlace
  same_number : cnt ≤ 20 → lidx ≤ 1 → (e : EvcRefP) → Memᴰ e (first_entries refp cnt lidx) → e.poc ≡ src.poc
      → CopyReason refp cnt lidx src Refusal.SameNumber

abbrev pub CopyWhy : Type 0
CopyWhy =
    (refp : List EvcRefP) (cnt lidx : ℕ) (src : EvcRefP) (why : Refusal)
    → ((copy refp cnt lidx src).answer ≡ Err why) ↔ CopyReason refp cnt lidx src why

-- A copy that is turned down leaves the lists.
abbrev pub CopyRefusedUnchanged : Type 0
CopyRefusedUnchanged =
    (refp : List EvcRefP) (cnt lidx : ℕ) (src : EvcRefP) (why : Refusal)
    → (copy refp cnt lidx src).answer ≡ Err why → (copy refp cnt lidx src).refp ≡ refp

-- Any other writes the entry as it is, and no other entry.
abbrev pub CopyWrites : Type 0
CopyWrites =
    (refp : List EvcRefP) (cnt lidx : ℕ) (src : EvcRefP) → ((why : Refusal) → CopyReason refp cnt lidx src why → ⊥)
    → copy refp cnt lidx src ≡ record { answer = Ok Answer.Done; refp = set refp (lidx * list_places + cnt) src }
