-- Put on keys and rows: the keys marked anew, the place for the picture, the picture there, and each return.
-- Assumes nothing.
use mathlib.Core.Path.{◌≡◌, refl, sym, ap, ◌∙◌, subst}
use mathlib.Core.Bool.{Bool, true, false, cond, ◌&&◌}
use mathlib.Core.Bool as Bool
use mathlib.Core.List.Memᴰ
use mathlib.Core.List.{List, [], ◌∷◌, ◌++◌, map, Memᴰ}
use Prim.Native.Nat.{ℕ, ◌+◌, ◌*◌, ◌<◌, ◌≤◌}
use native.Mathlib.Omega.{arith}
use mir.Val.{bool_byte}
use lib.Dec.{eqb}
use lib.ListN.{length, get_or, take, drop, set, length-set, length-map}
use lib.Seq.{paste, length-paste}
use Rattle.seq.specs.Lists.{any_of, count_if, select, highest, Distinct}
use Rattle.seq.proofs.Distinct.{distinct_apart}
use Rattle.seq.proofs.Members.{select-mem, select-append, map_at}
use Rattle.seq.proofs.Maps.{map-append, map-set, map-count, map-any, map-highest}
use Rattle.def.specs.declared.{EvcPm.EvcPm, PutCall.PutCall, Answer.Answer, Refusal.Refusal}
use Rattle.std.specs.Prelude.{Some, None, Ok, Err, Result}
use Rattle.std.specs.Option.{ok_or}
use Rattle.store.specs.Highest.{highest_place}
use Rattle.picman.specs.declared.{Shown.Shown}
use Rattle.keys.specs.declared.{Rest.Rest}
use Rattle.def.specs.State.{slots, no_slot, is_present, is_marked, is_empty, buffer_of}
use Rattle.keys.specs.Keys.{key_present, key_buffer, key_buffers, key_empty, key_made, key_unmarked, row_length, number_row, row_at, slot_at, lists_in, stands, Sized, Comes}
use Rattle.keys.proofs.RowLaws.{row_written, row_other, row-length}
use Rattle.keys.proofs.KeyLaws.{slot-made, slots-unseen, buffers-same}
use Rattle.keys.proofs.ListRows.{lists_stay, forward-numbers}
use Rattle.marking.specs.Marking.{marked}
use Rattle.marking.specs.OnKeys.{Marks}
use Rattle.marking.proofs.OnKeys.{keys-unmarked}
use Rattle.whole.specs.Whole.{whole, held_buffers}
use Rattle.whole.proofs.Laws.{whole-rules}
use Rattle.picman.specs.Put.{remarked, slot_taken, place_for, place, put_whole}
use Rattle.picman.specs.OnKeys.{shown_as, marks_anew, with_refs, only_marked, key_place, PlaceRoom, Placed, Remarked, Calls}
use Rattle.picman.proofs.Keeps.{remarked-whole}
use Rattle.picman.proofs.Places.{size_below, reference-place, highest-place, empty-slot}
use Rattle.picman.proofs.PutSteps.{stored, place-taken, place-stored, put-none, put-high, put-unleased, put-places}
use Rattle.picman.proofs.Calls.{calls_by, calls-refused, calls-picture, calls-done}

-- ---- the keys marked anew

module _ (c : PutCall) (keys : List ℕ) (long : length keys ≡ slots) where
  pub remarked-idr : c.is_idr ≡ true → Remarked c keys (map key_unmarked keys) 0
  remarked-idr e = record { remarks = λ rows rest. rw (e, keys-unmarked rows keys) refl; remarks_long = length-map keys key_unmarked ∙ long }

  pub remarked-mark : (next : List ℕ) (n : ℕ) → c.is_idr ≡ false → marks_anew c ≡ true → Marks c.ref_pic_gap_length keys next n → Remarked c keys next n
  remarked-mark next n e f m =
      let base : eqb c.temporal_id 0 ≡ true = rw e at f in
      record {
        remarks =
            λ rows rest.
            let counted : n ≡ count_if is_marked (marked c.ref_pic_gap_length (map (slot_at rows) keys)) =
            m.marks_count ∙ sym (map-count (slot_at rows) is_marked next) ∙ ap (count_if is_marked) (m.marks_slots rows) in
            rw (e, base, m.marks_slots rows, counted) refl;
        remarks_long = m.marks_long;
      }

-- A put that marks nothing leaves the state.
pub not-marked : (c : PutCall) (pm : EvcPm) → marks_anew c ≡ false → remarked c pm ≡ pm
not-marked c pm e = pick c.is_idr refl
  where
    pick : (idr : Bool) → c.is_idr ≡ idr → remarked c pm ≡ pm
    pick true t = absurd (Bool.true≢false (rw t at e))
    pick false t = let base : eqb c.temporal_id 0 ≡ false = rw t at e in rw (t, base) refl

-- ---- a whole state with a picture leased

module _ (keys rows : List ℕ) (rest : Rest) (sized : Sized keys rows) (w : whole (stands keys rows rest) ≡ true)
    (leased : key_present rest.lease ≡ true) (c : PutCall) where
  abbrev pm : EvcPm
  pm = stands keys rows rest

  size : length (map (slot_at rows) keys) ≡ slots
  size = length-map keys (slot_at rows) ∙ sized.slots_long

  held-parts : held_buffers (stands keys rows rest) ≡ key_buffers keys ++ map buffer_of (select is_present (slot_at rows rest.lease ∷ []))
  held-parts =
      ap (map buffer_of) (select-append is_present (map (slot_at rows) keys) (slot_at rows rest.lease ∷ []))
      ∙ map-append buffer_of (select is_present (map (slot_at rows) keys)) (select is_present (slot_at rows rest.lease ∷ []))
      ∙ ap (λ (l : List ℕ). l ++ map buffer_of (select is_present (slot_at rows rest.lease ∷ []))) (buffers-same rows keys)

  in-lease : Memᴰ (key_buffer rest.lease) (map buffer_of (select is_present (slot_at rows rest.lease ∷ [])))
  in-lease = Memᴰ.map buffer_of (select-mem is_present (slot_at rows rest.lease ∷ []) (Memᴰ.head refl) leased)

  pub room_for : (pos : ℕ) → pos < slots → PlaceRoom keys rest pos
  room_for pos h =
      let rules = whole-rules pm w in
      let b : ℕ = key_buffer rest.lease in
      record {
        place_in = h;
        size_room = size_below c [] pm w size leased;
        refs_room = reference-place c [] pm w size leased;
        forward_few = rules.forward_count;
        is_leased = leased;
        buffer_below = rules.buffers_below b (subst (Memᴰ b) (sym held-parts) (Memᴰ.append_right (key_buffers keys) in-lease));
        buffer_free = λ k. distinct_apart (key_buffers keys) _ (subst Distinct held-parts rules.buffers_differ) b k in-lease;
      }

  pub reference-in : rest.cur_num_ref_pics < slots
  reference-in = reference-place c [] pm w size leased

  empty-in : highest key_empty keys < slots
  empty-in = let e = map-highest (slot_at rows) is_empty keys in let h = (highest-place c [] pm w size leased).0 in omega arith

  -- some slot is empty
  some-empty : any_of key_empty keys ≡ true
  some-empty = sym (map-any (slot_at rows) is_empty keys) ∙ empty-slot c [] pm w size leased

  there : (get_or (map (slot_at rows) keys) rest.cur_num_ref_pics no_slot).present ≡ key_present (get_or keys rest.cur_num_ref_pics 0)
  there =
      let h = reference-in in
      rw (map_at (slot_at rows) keys rest.cur_num_ref_pics 0 no_slot (omega (arith, sized.slots_long)))

  -- What was found tells whether the slot is taken, and the place.
  pub found-taken : (why : Refusal) → Err why ≡ key_place c.ref_pic rest.cur_num_ref_pics keys
      → (slot_taken c (stands keys rows rest) ≡ true) × (why ≡ Refusal.SlotTaken)
  found-taken why h = pick c.ref_pic (key_present (get_or keys rest.cur_num_ref_pics 0)) refl h
    where
      pick : (r t : Bool) → key_present (get_or keys rest.cur_num_ref_pics 0) ≡ t
          → Err why ≡ ok_or (cond r (cond t None (Some rest.cur_num_ref_pics)) (highest_place key_empty keys)) Refusal.SlotTaken
          → ((r && (get_or (map (slot_at rows) keys) rest.cur_num_ref_pics no_slot).present) ≡ true) × (why ≡ Refusal.SlotTaken)
      pick true true e h = (there ∙ e, cc)
      pick true false e h = cc
      pick false t e h = let f = rw some-empty at h in cc

  pub found-free : (found : ℕ) → Ok found ≡ key_place c.ref_pic rest.cur_num_ref_pics keys
      → (slot_taken c (stands keys rows rest) ≡ false) × (place_for c (stands keys rows rest) ≡ found) × (found < slots)
  found-free found h = pick c.ref_pic (key_present (get_or keys rest.cur_num_ref_pics 0)) refl h
    where
      pick : (r t : Bool) → key_present (get_or keys rest.cur_num_ref_pics 0) ≡ t
          → Ok found ≡ ok_or (cond r (cond t None (Some rest.cur_num_ref_pics)) (highest_place key_empty keys)) Refusal.SlotTaken
          → ((r && (get_or (map (slot_at rows) keys) rest.cur_num_ref_pics no_slot).present) ≡ false)
          × (cond r rest.cur_num_ref_pics (highest is_empty (map (slot_at rows) keys)) ≡ found)
          × (found < slots)
      pick true true e h = cc
      pick true false e h = let q : found ≡ rest.cur_num_ref_pics = cc in (there ∙ e, sym q, rw q reference-in)
      pick false t e h =
          let f = rw some-empty at h in
          let q : found ≡ highest key_empty keys = cc in
          (refl, map-highest (slot_at rows) is_empty keys ∙ sym q, rw q empty-in)

  -- ---- the second part of a put, the state before marking being any

  module _ (before : List ℕ) (rest₀ : Rest) (long : length before ≡ slots) where
    pub on-taken : (why : Refusal) → Err why ≡ key_place c.ref_pic rest.cur_num_ref_pics keys
        → Calls (Err why) before rows rest₀ before rows rest₀ (place (stands before rows rest₀) (stands keys rows rest) (lists_in rows) c)
    on-taken why h =
        let f = found-taken why h in
        rw f.1
        (calls_by (place-taken (stands before rows rest₀) pm (lists_in rows) c f.0)
        (calls-refused Refusal.SlotTaken before rows rest₀ (record { slots_long = long; rows_long = sized.rows_long })))

    pub on-placed : (shown : Shown) (keys' rows' : List ℕ) (rest' : Rest) (found : ℕ) → Ok found ≡ key_place c.ref_pic rest.cur_num_ref_pics keys
        → Placed shown keys rows rest c found keys' rows' rest'
        → Calls (Ok (Answer.Picture shown.buffer shown.poc)) before rows rest₀ keys' rows' rest'
        (place (stands before rows rest₀) (stands keys rows rest) (lists_in rows) c)
    on-placed shown keys' rows' rest' found h d =
        let f = found-free found h in
        calls_by (place-stored (stands before rows rest₀) pm (lists_in rows) c f.0 ∙ ap (λ (i : ℕ). stored i pm (lists_in rows) c) f.1)
        (rw d.shows (calls-picture d.rows_placed (record {
          answers = refl;
          stands_for = d.stands_placed;
          lists_stay = d.lists_placed;
          still_sized = d.sized_placed;
        })))

-- ---- the picture in its slot

counted : (r : Bool) (n : ℕ) → n + bool_byte r ≡ cond r (n + 1) n
counted true n = refl
counted false n = omega arith

module _ (keys rows : List ℕ) (rest : Rest) (c : PutCall) (pos : ℕ) (sized : Sized keys rows) (room : PlaceRoom keys rest pos)
    (layer : c.temporal_id < 256) where
  abbrev b : ℕ
  b = key_buffer rest.lease

  abbrev n : ℕ
  n = rest.num_refp_0

  abbrev after : List ℕ
  after = paste rows (row_length * b) (row_at rows number_row) n

  abbrev put-key : ℕ
  put-key = key_made c.poc c.temporal_id b c.need_for_output c.ref_pic

  abbrev placed-rest : Rest
  placed-rest = record rest {
    lease = 0;
    cur_pb_size = rest.cur_pb_size + 1;
    cur_num_ref_pics = rest.cur_num_ref_pics + bool_byte c.ref_pic;
  }

  few : n ≤ length (row_at rows number_row)
  few = let f = room.forward_few in omega (arith, row-length rows number_row sized.rows_long (omega arith))

  pub pic-placed : Placed (shown_as b c.poc) keys rows rest c pos (set keys pos put-key) after placed-rest
  pic-placed =
      let e = room.forward_few in
      let h = room.buffer_below in
      let r = sized.rows_long in
      let written : row_at after b ≡ take n (row_at rows number_row) ++ drop n (row_at rows b) =
      row_written rows b (row_at rows number_row) n r (omega arith) e few in
      let others = row_other rows b (row_at rows number_row) n r (omega arith) e few in
      let unseen : map (slot_at after) keys ≡ map (slot_at rows) keys = slots-unseen rows after b others keys room.buffer_free in
      let made = slot-made after c.poc c.temporal_id b c.need_for_output c.ref_pic layer (omega arith) in
      record {
        shows = refl;
        stands_placed =
            rw (
              map-set (slot_at after) keys pos put-key,
              unseen,
              made,
              written,
              counted c.ref_pic rest.cur_num_ref_pics,
              forward-numbers rows n r e,
              room.is_leased,
            )
            refl;
        lists_placed = lists_stay rows b (row_at rows number_row) n r h e few;
        rows_placed = others;
        sized_placed =
            record {
              slots_long = length-set keys pos put-key ∙ sized.slots_long;
              rows_long = length-paste rows (row_length * b) (row_at rows number_row) n (omega arith) few ∙ r;
            };
      }

-- ---- each return of a put

module _ (keys rows : List ℕ) (rest : Rest) (c : PutCall) (sized : Sized keys rows) where
  pub on-nothing : (keys' : List ℕ) (rest' : Rest) → c.has_pic ≡ false
      → Comes (Ok Answer.Done) keys' rows rest' (lists_in rows) (only_marked c (stands keys rows rest))
      → Calls (Ok Answer.Done) keys rows rest keys' rows rest' (put_whole (stands keys rows rest) (lists_in rows) c)
  on-nothing keys' rest' p d = calls_by (put-none (stands keys rows rest) (remarked c (stands keys rows rest)) (lists_in rows) c p) (calls-done d)

  module _ (p : c.has_pic ≡ true) where
    pub on-high : 2147483647 < c.poc
        → Calls (Err Refusal.NumberTooHigh) keys rows rest keys rows rest (put_whole (stands keys rows rest) (lists_in rows) c)
    on-high t =
        calls_by (put-high (stands keys rows rest) (remarked c (stands keys rows rest)) (lists_in rows) c p t)
        (calls-refused Refusal.NumberTooHigh keys rows rest sized)

    module _ (t : c.poc ≤ 2147483647) where
      pub on-unleased : key_present rest.lease ≡ false
          → Calls (Err Refusal.NoLease) keys rows rest keys rows rest (put_whole (stands keys rows rest) (lists_in rows) c)
      on-unleased l =
          calls_by (put-unleased (stands keys rows rest) (remarked c (stands keys rows rest)) (lists_in rows) c p t l)
          (calls-refused Refusal.NoLease keys rows rest sized)

      -- The state q that marking made of it is placed.
      pub on-marked : (answer : Result Answer Refusal) (q : EvcPm) (keys' rows' : List ℕ) (rest' : Rest) → key_present rest.lease ≡ true → q ≡ remarked c (stands keys rows rest)
          → Calls answer keys rows rest keys' rows' rest' (place (stands keys rows rest) q (lists_in rows) c)
          → Calls answer keys rows rest keys' rows' rest' (put_whole (stands keys rows rest) (lists_in rows) c)
      on-marked answer q keys' rows' rest' l e d =
          calls_by
          (put-places (stands keys rows rest) (remarked c (stands keys rows rest)) (lists_in rows) c p t l
          ∙ ap (λ (x : EvcPm). place (stands keys rows rest) x (lists_in rows) c) (sym e))
          d

-- the state after marking is whole
pub marked-whole : (c : PutCall) (keys rows next : List ℕ) (rest : Rest) (n : ℕ) → Sized keys rows
    → whole (stands keys rows rest) ≡ true → Remarked c keys next n
    → whole (stands next rows (with_refs rest n)) ≡ true
marked-whole c keys rows next rest n sized w m =
    ap whole (m.remarks rows rest) ∙ remarked-whole c (stands keys rows rest) w (length-map keys (slot_at rows) ∙ sized.slots_long)
