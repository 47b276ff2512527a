-- The frames to check by hand: the twelve that are marked with a star, as one list of what the definitions give beside what is said of them,
-- and one proof that computes over the whole list (proofs/Frames.antt). Twelve stars are thirteen rows: the star of L 0, layer 0 says two
-- things, what previous 2,147,483,646 gives and what comes from there.
-- Assumes nothing.
use Rattle.std.specs.Prelude.{ℕ, ◌≡◌, Bool, true, false, List, [], ◌∷◌, ◌++◌, map, ℤ, pos, negsuc, replicate, take, drop, Result, Ok, Err}
use Rattle.def.specs.State.{list_places, empty_slot, occupied_by, new_pm, with_store}
use Rattle.def.specs.declared.{PocVal.PocVal, Slot.Slot, EvcPm.EvcPm, EvcRefP.EvcRefP, EvcPoc.EvcPoc, RefpCall.RefpCall, Answer.Answer, Refusal.Refusal, SliceType.SliceType}
use Rattle.poc.specs.PictureNumber.{derive, record_of}
use Rattle.marking.specs.Marking.{marking}
use Rattle.refp.specs.Lists.{lists}

-- What a frame shows: a derivation's answer with the previous number after it; the slots after marking with the stored count; or the answer of
-- a list call, the two stored counts, and the numbers of so many entries of each list.
pub data Shown : Type 0 where
  number : Result PocVal Refusal → ℕ → Shown
  store : List Slot → ℕ → Shown
  both : Result Answer Refusal → ℕ → ℕ → List ℕ → List ℕ → Shown

pub record Frame : Type 0 where
  pub given : Shown
  pub said : Shown

abbrev pub frame : Shown → Shown → Frame
frame given said = record { given = given; said = said }

-- The record with this previous number and offset; what number it holds is not read.
abbrev pub before : ℕ → ℕ → EvcPoc
before prev d = record_of (pos 0) prev d

abbrev pub derived : ℕ → ℕ → EvcPoc → Shown
derived L t r = number (derive L t r).answer (derive L t r).poc.prev_poc_val

abbrev pub is : ℤ → Result PocVal Refusal
is z = Ok (record { 0 = z })

-- The record after derivations of these layers.
unfoldable pub state_after : ℕ → List ℕ → EvcPoc → EvcPoc
unfolding derive
state_after L [] r = r
state_after L (t ∷ ts) r = state_after L ts (derive L t r).poc

-- A picture of this number and layer, in the buffer of its number; marked, or not any more.
abbrev pub picture : Bool → ℕ → ℕ → Slot
picture isRef poc layer =
    occupied_by (record { poc = poc; is_ref = isRef; need_for_out = false; temporal_id = layer; list_poc = replicate list_places 0 }) poc

abbrev pub ref : ℕ → Slot
ref poc = picture true poc 0

-- n empty slots.
abbrev pub empty : ℕ → List Slot
empty n = replicate n empty_slot

-- The new state with these pictures, so many of them, all marked.
abbrev pub holding : List Slot → ℕ → EvcPm
holding pics n = with_store new_pm pics empty_slot n n

abbrev pub marks : ℕ → EvcPm → Shown
marks gap pm = store (marking gap pm).pic (marking gap pm).cur_num_ref_pics

-- B at 2, layer 2, limit 2, last intra 0; marked are 0 and 8 of layer 0, and 4 of layer 1.
abbrev pub request : RefpCall
request = record { slice_type = SliceType.EVC_ST_B; poc = 2; layer_id = 2; last_intra = pos 0; max_num_ref_pics = 2 }

abbrev pub asked : EvcPm
asked = holding (ref 0 ∷ ref 8 ∷ picture true 4 1 ∷ empty 24) 3

-- Lists all zero, as a program starts with.
abbrev pub no_lists : List EvcRefP
no_lists = replicate 42 (record { present = false; buf = 0; poc = 0; list_poc = replicate list_places 0 })

abbrev pub numbers_of : List EvcRefP → List ℕ
numbers_of es = map (λ (e : EvcRefP). e.poc) es

abbrev pub lists_of : ℕ → EvcPm → RefpCall → Shown
lists_of n pm c =
    let r = lists pm no_lists c in
    both r.answer r.pm.num_refp_0 r.pm.num_refp_1 (numbers_of (take n r.refp)) (numbers_of (take n (drop list_places r.refp)))

-- In the order in which they are given.
unfoldable pub frames : List Frame
unfolding state_after
frames =
    frame (derived 3 1 (before 8 0)) (number (is (pos 4)) 8)
    ∷ frame (derived 3 2 (state_after 3 (1 ∷ []) (before 8 0))) (number (is (pos 2)) 8)
    ∷ frame (derived 3 2 (state_after 3 (1 ∷ 2 ∷ []) (before 8 0))) (number (is (pos 6)) 8)
    ∷ frame (derived 3 3 (state_after 3 (1 ∷ 2 ∷ 2 ∷ []) (before 8 0))) (number (is (pos 1)) 8)
    ∷ frame (derived 3 1 (before 8 7)) (number (is (pos 12)) 16)
    ∷ frame (derived 2 1 (before 0 0)) (number (is (negsuc 1)) 0)
    ∷ frame (derived 15 15 (before 32768 32766)) (number (is (pos 32767)) 32768)
    ∷ frame (derived 0 1 (before 0 0)) (number (Err Refusal.BadLayer) 0)
    ∷ frame (derived 0 0 (before 2147483646 0)) (number (is (pos 2147483647)) 2147483647)
    ∷ frame (derived 0 0 (state_after 0 (0 ∷ []) (before 2147483646 0))) (number (Err Refusal.NumberTooHigh) 2147483647)
    ∷ frame (marks 0 (holding (ref 0 ∷ ref 1 ∷ ref 2 ∷ ref 3 ∷ ref 4 ∷ empty 22) 5))
    (store (ref 1 ∷ ref 2 ∷ ref 3 ∷ ref 4 ∷ (empty 22 ++ (picture false 0 0 ∷ []))) 4)
    ∷ frame (marks 4 (holding (ref 3 ∷ ref 4 ∷ ref 5 ∷ empty 24) 3)) (store (ref 3 ∷ ref 4 ∷ (empty 24 ++ (picture false 5 0 ∷ []))) 2)
    ∷ frame (lists_of 2 asked request) (both (Ok (Answer.Counts 2 2)) 2 2 (0 ∷ 4 ∷ []) (4 ∷ 8 ∷ []))
    ∷ []

abbrev pub FramesHold : Type 0
FramesHold = map (λ (f : Frame). f.given) frames ≡ map (λ (f : Frame). f.said) frames
