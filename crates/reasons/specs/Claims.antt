-- What is claimed of the answer. Each claim has its proof under its own name: proofs/Refusing.antt, proofs/Row.antt, proofs/Places.antt,
-- proofs/Limits.antt.
-- Assumes nothing.
use Rattle.std.specs.Prelude.{ℕ, ◌+◌, ◌≤◌, ◌<◌, ◌≡◌, true, false, List, ◌↔◌, length, take, get_or, Ok, Err}
use Rattle.def.specs.State.{list_places, highest_poc, no_slot, no_ref_p, is_present, is_marked}
use Rattle.def.specs.declared.{Slot.Slot, EvcPm.EvcPm, EvcRefP.EvcRefP, RefpCall.RefpCall, Answer.Answer, Refusal.Refusal}
use Rattle.def.specs.Results.{RefpResult}
use Rattle.whole.specs.Whole.{whole}
use Rattle.ordering.specs.Order.{Key, down}
use Rattle.passes.specs.declared.Direction.{Direction}
use Rattle.passes.specs.Passes.{Progress, takes_key}
use Rattle.ruling.specs.Rules.{ask_of}
use Rattle.choosing.specs.Choice.{is_b, forward_of}
use Rattle.refp.specs.Lists.{is_i, lists}
use Rattle.refp.specs.Claims.{ListsReason}
use Rattle.reasons.specs.declared.Reason.{Reason}
use Rattle.reasons.specs.Reasons.{turn_of, at_turn, key_at, reason_for, why}

-- ---- what is turned down

-- What the list call is turned down with, and only then 14: the slot is empty or missing.
pub data WhyRefusal (pm : EvcPm) (c : RefpCall) (slot : ℕ) : Refusal → Type 0 where
  of_lists : {r : Refusal} → ListsReason pm c r → WhyRefusal pm c slot r
  no_picture : ((r : Refusal) → ListsReason pm c r → ⊥) → is_present (get_or pm.pic slot no_slot) ≡ false → WhyRefusal pm c slot Refusal.NoSuchPlace

abbrev pub WhyRefused : Type 0
WhyRefused = (pm : EvcPm) (c : RefpCall) (slot : ℕ) (r : Refusal) → (why pm c slot ≡ Err r) ↔ WhyRefusal pm c slot r

-- ---- slice I

pub record AskedOfI (pm : EvcPm) (c : RefpCall) (slot : ℕ) : Type 0 where
  pub is_whole : whole pm ≡ true
  pub number_fits : c.poc ≤ highest_poc
  pub is_i : is_i c.slice_type ≡ true
  pub occupied : is_present (get_or pm.pic slot no_slot) ≡ true

-- No list asked, exactly for slice I; neither limit nor marks play a part.
abbrev pub NoListExactly : Type 0
NoListExactly = (pm : EvcPm) (c : RefpCall) (slot : ℕ) → (why pm c slot ≡ Ok Reason.NoListAsked) ↔ AskedOfI pm c slot

-- ---- every other slice

-- The list call is accepted, and asked of is a slot that holds a picture.
pub record AskedOf (pm : EvcPm) (refp : List EvcRefP) (c : RefpCall) (slot : ℕ) : Type 0 where
  pub forward : ℕ
  pub backward : ℕ
  pub accepted : (lists pm refp c).answer ≡ Ok (Answer.Counts forward backward)
  pub not_i : is_i c.slice_type ≡ false
  pub occupied : is_present (get_or pm.pic slot no_slot) ≡ true

-- In which pass a slot's picture has its turn, and how far its pass has come by then.
abbrev pub way_of : RefpCall → List Slot → ℕ → Direction
way_of c xs slot = turn_of (is_b c.slice_type) c.poc (key_at xs slot)

abbrev pub come_to : RefpCall → List Slot → ℕ → Progress
come_to c xs slot = at_turn (ask_of c) (way_of c xs slot) slot (down xs)

-- The condition of each reason, at the picture's turn.
abbrev pub Condition : RefpCall → List Slot → ℕ → Reason → Type 0
Condition c xs slot (Reason.Taken n) =
    let p = come_to c xs slot in
    (is_marked (get_or xs slot no_slot) ≡ true)
    × (takes_key (ask_of c) (way_of c xs slot) (length p.list) p.bound (key_at xs slot) ≡ true)
    × (n ≡ length p.list)
Condition c xs slot Reason.NotMarked = is_marked (get_or xs slot no_slot) ≡ false
Condition c xs slot Reason.Full = (ask_of c).limit ≤ length (come_to c xs slot).list
Condition c xs slot Reason.Old = (ask_of c).old (key_at xs slot) ≡ true
Condition c xs slot Reason.SameNumber = (key_at xs slot).poc ≡ c.poc
Condition c xs slot Reason.OtherSide = (is_b c.slice_type ≡ false) × (c.poc < (key_at xs slot).poc)
Condition c xs slot Reason.LayerOverBound = (come_to c xs slot).bound < (key_at xs slot).layer
Condition c xs slot Reason.NoListAsked = is_i c.slice_type ≡ true

-- The place of a reason in the row.
abbrev pub row_place : Reason → ℕ
row_place (Reason.Taken n) = 0
row_place Reason.NotMarked = 1
row_place Reason.Full = 2
row_place Reason.Old = 3
row_place Reason.SameNumber = 4
row_place Reason.OtherSide = 5
row_place Reason.LayerOverBound = 6
row_place Reason.NoListAsked = 7

-- It holds, and none before it in the row does.
pub record Earliest (c : RefpCall) (xs : List Slot) (slot : ℕ) (r : Reason) : Type 0 where
  pub holds : Condition c xs slot r
  pub none_before : (q : Reason) → row_place q < row_place r → Condition c xs slot q → ⊥

-- A reason is given exactly if it is the earliest: so 'layer over the bound' is given only where the layer is over the bound.
abbrev pub EachExactly : Type 0
EachExactly = (pm : EvcPm) (refp : List EvcRefP) (c : RefpCall) (slot : ℕ) (r : Reason) → AskedOf pm refp c slot
    → (why pm c slot ≡ Ok r) ↔ Earliest c pm.pic slot r

-- ---- taken, by the list that the list call builds

-- The entry of a list that holds the picture of a slot.
abbrev pub picture_entry : Slot → EvcRefP
picture_entry s = record { present = true; buf = s.buf; poc = s.pic.poc; list_poc = s.pic.list_poc }

pub record InForward (r : RefpResult) (n : ℕ) (s : Slot) : Type 0 where
  pub below : n < r.pm.num_refp_0
  pub entry : get_or r.refp n no_ref_p ≡ picture_entry s

-- Taken at n exactly if n is below the forward count and entry n of the forward list is the slot's picture.
abbrev pub TakenExactly : Type 0
TakenExactly = (pm : EvcPm) (refp : List EvcRefP) (c : RefpCall) (slot n : ℕ) → length refp ≡ list_places + list_places → AskedOf pm refp c slot
    → (why pm c slot ≡ Ok (Reason.Taken n)) ↔ InForward (lists pm refp c) n (get_or pm.pic slot no_slot)

-- The buffer number of the entry tells as much: pictures may share a number, and no two of a whole state share a buffer.
abbrev pub BufferTells : Type 0
BufferTells = (pm : EvcPm) (refp : List EvcRefP) (c : RefpCall) (slot n : ℕ) → length refp ≡ list_places + list_places → AskedOf pm refp c slot
    → n < (lists pm refp c).pm.num_refp_0 → (get_or (lists pm refp c).refp n no_ref_p).buf ≡ (get_or pm.pic slot no_slot).buf
    → why pm c slot ≡ Ok (Reason.Taken n)

-- ---- limits

abbrev pub with_limit : ℕ → RefpCall → RefpCall
with_limit m c =
    record { slice_type = c.slice_type; poc = c.poc; layer_id = c.layer_id; last_intra = c.last_intra; max_num_ref_pics = m }

-- With a lower limit the forward list is the same one, cut there.
abbrev pub LimitCuts : Type 0
LimitCuts = (c : RefpCall) (ks : List Key) (m n : ℕ) → m ≤ n → forward_of (with_limit m c) ks ≡ take m (forward_of (with_limit n c) ks)

-- So under a lower limit m a marked picture has 'full' if m pictures of the list have an earlier turn, and else the same reason.
abbrev pub LimitTells : Type 0
LimitTells = (c : RefpCall) (xs : List Slot) (slot m n : ℕ) → m ≤ n → is_marked (get_or xs slot no_slot) ≡ true
    → (m ≤ length (come_to (with_limit n c) xs slot).list → reason_for (with_limit m c) xs slot ≡ Reason.Full)
    × (length (come_to (with_limit n c) xs slot).list < m → reason_for (with_limit m c) xs slot ≡ reason_for (with_limit n c) xs slot)
