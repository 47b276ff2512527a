-- From contents to bytes and back: what the bytes of fitting contents stand for are the contents.
-- Assumes nothing.
use mathlib.Core.Path.{◌≡◌, refl, sym, ap, ◌∙◌, subst}
use mathlib.Core.Bool.{Bool, true, false}
use mathlib.Core.List.{List, [], ◌∷◌, ◌++◌, flat_map, Memᴰ}
use Prim.Native.Nat.{ℕ, ◌+◌, ◌*◌, ◌^◌, ◌<◌}
use native.Mathlib.Nat.{add-zero}
use native.Mathlib.Omega.{arith}
use lib.Dec.{eqb}
use lib.IntN.{ℤ}
use lib.Signed.{mag}
use lib.ListN.{length, length-append}
use Rattle.seq.proofs.Rows.{Stands, stands-left, stands-right, stands_at, stands_self, length-row, read-row}
use Rattle.def.specs.State.{slots, list_places, no_slot, no_ref_p}
use Rattle.def.specs.Word.{word_bytes, twos_complement, signed_of}
use Rattle.def.proofs.WordLaws.{word-of-bytes, signed-of-complement, complement-fits}
use Rattle.def.specs.declared.Slot.{Slot}
use Rattle.def.specs.declared.EvcPm.{EvcPm}
use Rattle.def.specs.declared.EvcRefP.{EvcRefP}
use Rattle.def.specs.declared.EvcPoc.{EvcPoc}
use Rattle.image.specs.Image.{word_width, slot_width, refp_width, lease_place, scalars_place, refp_place, poc_place, image_length}
use Rattle.image.specs.Image.{flag_byte, list_bytes, slot_bytes, scalar_bytes, pm_bytes, refp_bytes, poc_bytes, image_bytes}
use Rattle.image.specs.Image.{byte_at, flag_at, word_at, row_at, list_at, slot_at, pm_of, refp_at, refp_of, poc_of}
use Rattle.image.specs.Fits.{ListFits, SlotFits, PmFits, RefPFits, PocFits, ContentsFit}
use Rattle.image.specs.Claims.{ContentsKept}

flag-read : (b : Bool) {n : ℕ} → n ≡ flag_byte b → eqb n 1 ≡ b
flag-read true e = rw e refl
flag-read false e = rw e refl

-- ---- how many bytes a part has

list-width : (ns : List ℕ) → ListFits ns → length (list_bytes ns) ≡ 84
unfolding list_bytes
list-width ns f = length-row word_bytes word_width ns (λ n m. refl) ∙ ap (λ (n : ℕ). word_width * n) f.size

pub slot-width : (s : Slot) → SlotFits s → length (slot_bytes s) ≡ slot_width
unfolding slot_bytes
slot-width s f = let e = list-width s.pic.list_poc f.lists in omega arith

pub refp-width : (e : EvcRefP) → RefPFits e → length (refp_bytes e) ≡ refp_width
unfolding refp_bytes
refp-width e f = let h = list-width e.list_poc f.lists in omega arith

pub row-width : (pm : EvcPm) → PmFits pm → length (flat_map slot_bytes pm.pic) ≡ lease_place
row-width pm f = length-row slot_bytes slot_width pm.pic (λ s m. slot-width s (f.each s m)) ∙ ap (λ (n : ℕ). slot_width * n) f.size

pm-width : (pm : EvcPm) → PmFits pm → length (pm_bytes pm) ≡ refp_place
unfolding pm_bytes scalar_bytes
pm-width pm f =
    let lease = slot_bytes pm.pic_lease in
    omega (
      arith,
      length-append (flat_map slot_bytes pm.pic) (lease ++ scalar_bytes pm),
      row-width pm f,
      length-append lease (scalar_bytes pm),
      slot-width pm.pic_lease f.lease,
    )

refps-width : (refp : List EvcRefP) → length refp ≡ 2 * list_places → ((e : EvcRefP) → Memᴰ e refp → RefPFits e)
    → length (flat_map refp_bytes refp) ≡ refp_width * (2 * list_places)
refps-width refp size f = length-row refp_bytes refp_width refp (λ e m. refp-width e (f e m)) ∙ ap (λ (n : ℕ). refp_width * n) size

-- ---- what is read where a part stands

module _ {bs : List ℕ} where
  -- the first byte stands at i itself
  pub first : {i n : ℕ} {ys : List ℕ} → Stands bs i ys n → 0 < n → byte_at bs i ≡ byte_at ys 0
  first {i} p h = ap (byte_at bs) (sym (add-zero i)) ∙ stands_at p 0 0 h

  word_read : {i : ℕ} (n : ℕ) → n < 2 ^ 32 → Stands bs i (word_bytes n) 4 → word_at bs i ≡ n
  unfolding word_at
  word_read n h p =
      rw (first p (omega arith), stands_at p 1 0 (omega arith), stands_at p 2 0 (omega arith), stands_at p 3 0 (omega arith)) (word-of-bytes n h)

  list_read : {i : ℕ} (ns : List ℕ) → ListFits ns → Stands bs i (list_bytes ns) 84 → list_at bs i ≡ ns
  unfolding list_bytes list_at
  list_read {i} ns f p = read-row word_bytes word_width (word_at bs) i 0 ns (λ n m. refl) (λ n m j q. word_read n (f.words n m) q) list_places f.size p

  slot_read : {i : ℕ} (s : Slot) → SlotFits s → Stands bs i (slot_bytes s) slot_width → slot_at bs i ≡ s
  unfolding slot_bytes slot_at
  slot_read {i} s f p =
      let front : List ℕ = flag_byte s.present ∷ s.buf ∷ flag_byte s.pic.is_ref ∷ flag_byte s.pic.need_for_out ∷ s.pic.temporal_id ∷ [] in
      let number : List ℕ = word_bytes s.pic.poc in
      let list : List ℕ = list_bytes s.pic.list_poc in
      let here : Stands bs i (front ++ number) 9 = stands-left (front ++ number) list 9 84 refl p in
      let e : flag_at bs i ≡ s.present = flag-read s.present (first p (omega arith)) in
      let e1 : byte_at bs (i + 1) ≡ s.buf = stands_at p 1 0 (omega arith) in
      let e2 : flag_at bs (i + 2) ≡ s.pic.is_ref = flag-read s.pic.is_ref (stands_at p 2 0 (omega arith)) in
      let e3 : flag_at bs (i + 3) ≡ s.pic.need_for_out = flag-read s.pic.need_for_out (stands_at p 3 0 (omega arith)) in
      let e4 : byte_at bs (i + 4) ≡ s.pic.temporal_id = stands_at p 4 0 (omega arith) in
      let e5 : word_at bs (i + 5) ≡ s.pic.poc = word_read s.pic.poc f.number (stands-right front number 5 4 refl here) in
      let e9 : list_at bs (i + 9) ≡ s.pic.list_poc = list_read s.pic.list_poc f.lists (stands-right (front ++ number) list 9 84 refl p) in
      rw (e, e1, e2, e3, e4, e5, e9) refl

  refp-read : {i : ℕ} (r : EvcRefP) → RefPFits r → Stands bs i (refp_bytes r) refp_width → refp_at bs i ≡ r
  unfolding refp_bytes refp_at
  refp-read {i} r f p =
      let front : List ℕ = flag_byte r.present ∷ r.buf ∷ [] in
      let number : List ℕ = word_bytes r.poc in
      let list : List ℕ = list_bytes r.list_poc in
      let here : Stands bs i (front ++ number) 6 = stands-left (front ++ number) list 6 84 refl p in
      let e : flag_at bs i ≡ r.present = flag-read r.present (first p (omega arith)) in
      let e1 : byte_at bs (i + 1) ≡ r.buf = stands_at p 1 0 (omega arith) in
      let e2 : word_at bs (i + 2) ≡ r.poc = word_read r.poc f.number (stands-right front number 2 4 refl here) in
      let e6 : list_at bs (i + 6) ≡ r.list_poc = list_read r.list_poc f.lists (stands-right (front ++ number) list 6 84 refl p) in
      rw (e, e1, e2, e6) refl

  pm-read : (pm : EvcPm) → PmFits pm → Stands bs 0 (pm_bytes pm) refp_place → pm_of bs ≡ pm
  unfolding pm_bytes scalar_bytes pm_of
  pm-read pm f p =
      let row : List ℕ = flat_map slot_bytes pm.pic in
      let lease : List ℕ = slot_bytes pm.pic_lease in
      let front : List ℕ = pm.max_pb_size ∷ pm.max_num_ref_pics ∷ pm.cur_pb_size ∷ pm.cur_num_ref_pics ∷ pm.num_refp_0 ∷ pm.num_refp_1 ∷ [] in
      let next : List ℕ = word_bytes pm.poc_next_output in
      let increase : List ℕ = pm.poc_increase ∷ [] in
      let scalars : List ℕ = scalar_bytes pm in
      let lease-wide : length lease ≡ slot_width = slot-width pm.pic_lease f.lease in
      let behind : Stands bs lease_place (lease ++ scalars) 104 = stands-right row (lease ++ scalars) lease_place 104 (row-width pm f) p in
      let q : Stands bs scalars_place scalars 11 = stands-right lease scalars slot_width 11 lease-wide behind in
      let e : row_at (slot_at bs) slot_width 0 slots ≡ pm.pic =
      read-row slot_bytes slot_width (slot_at bs) 0 no_slot pm.pic (λ s m. slot-width s (f.each s m)) (λ s m j h. slot_read s (f.each s m) h) slots f.size
      (stands-left row (lease ++ scalars) lease_place 104 (row-width pm f) p) in
      let l : slot_at bs lease_place ≡ pm.pic_lease = slot_read pm.pic_lease f.lease (stands-left lease scalars slot_width 11 lease-wide behind) in
      let e0 : byte_at bs scalars_place ≡ pm.max_pb_size = stands_at q 0 0 (omega arith) in
      let e1 : byte_at bs (scalars_place + 1) ≡ pm.max_num_ref_pics = stands_at q 1 0 (omega arith) in
      let e2 : byte_at bs (scalars_place + 2) ≡ pm.cur_pb_size = stands_at q 2 0 (omega arith) in
      let e3 : byte_at bs (scalars_place + 3) ≡ pm.cur_num_ref_pics = stands_at q 3 0 (omega arith) in
      let e4 : byte_at bs (scalars_place + 4) ≡ pm.num_refp_0 = stands_at q 4 0 (omega arith) in
      let e5 : byte_at bs (scalars_place + 5) ≡ pm.num_refp_1 = stands_at q 5 0 (omega arith) in
      let e10 : byte_at bs (scalars_place + 10) ≡ pm.poc_increase = stands_at q 10 0 (omega arith) in
      let e6 : word_at bs (scalars_place + 6) ≡ pm.poc_next_output =
      word_read pm.poc_next_output f.next_output
      (stands-left next increase 4 1 refl (stands-right front (next ++ increase) 6 5 refl q)) in
      rw (e, l, e0, e1, e2, e3, e4, e5, e6, e10) refl

  refps-read : (refp : List EvcRefP) → length refp ≡ 2 * list_places → ((e : EvcRefP) → Memᴰ e refp → RefPFits e)
      → Stands bs refp_place (flat_map refp_bytes refp) (refp_width * (2 * list_places)) → refp_of bs ≡ refp
  unfolding refp_of
  refps-read refp size f p =
      read-row refp_bytes refp_width (refp_at bs) refp_place no_ref_p refp (λ e m. refp-width e (f e m)) (λ e m j h. refp-read e (f e m) h) (2 * list_places) size p

  signed-read : {i : ℕ} (z : ℤ) → mag z < 2 ^ 31 → Stands bs i (word_bytes (twos_complement z)) 4 → signed_of (word_at bs i) ≡ z
  signed-read z h p = ap signed_of (word_read (twos_complement z) (complement-fits z h) p) ∙ signed-of-complement z h

  poc-read : (r : EvcPoc) → PocFits r → Stands bs poc_place (poc_bytes r) 12 → poc_of bs ≡ r
  unfolding poc_bytes poc_of
  poc-read r f p =
      let number : List ℕ = word_bytes (twos_complement r.poc_val.0) in
      let previous : List ℕ = word_bytes r.prev_poc_val in
      let offset : List ℕ = word_bytes (twos_complement r.prev_doc_offset.0) in
      let behind : Stands bs (poc_place + 4) (previous ++ offset) 8 = stands-right number (previous ++ offset) 4 8 refl p in
      let e : signed_of (word_at bs poc_place) ≡ r.poc_val.0 =
      signed-read r.poc_val.0 f.number (stands-left number (previous ++ offset) 4 8 refl p) in
      let e4 : word_at bs (poc_place + 4) ≡ r.prev_poc_val =
      word_read r.prev_poc_val f.previous (stands-left previous offset 4 4 refl behind) in
      let e8 : signed_of (word_at bs (poc_place + 8)) ≡ r.prev_doc_offset.0 =
      signed-read r.prev_doc_offset.0 f.offset (stands-right previous offset 4 4 refl behind) in
      rw (e, e4, e8) refl

-- ---- the whole

module _ (pm : EvcPm) (refp : List EvcRefP) (poc : EvcPoc) (f : ContentsFit pm refp poc) where
  abbrev state : List ℕ
  state = pm_bytes pm

  abbrev lists : List ℕ
  lists = flat_map refp_bytes refp

  abbrev image : List ℕ
  image = image_bytes pm refp poc

  pub wide : length image ≡ image_length
  unfolding image_bytes poc_bytes
  wide =
      omega (
        arith,
        length-append state (lists ++ poc_bytes poc),
        pm-width pm f.state,
        length-append lists (poc_bytes poc),
        refps-width refp f.places f.entry,
      )

  all-stands : Stands image 0 (state ++ (lists ++ poc_bytes poc)) image_length
  unfolding image_bytes
  all-stands = subst (Stands image 0 image) wide (stands_self image)

  pub state-stands : Stands image 0 (pm_bytes pm) refp_place
  state-stands = stands-left state (lists ++ poc_bytes poc) refp_place (refp_width * (2 * list_places) + 12) (pm-width pm f.state) all-stands

  behind : Stands image refp_place (lists ++ poc_bytes poc) (refp_width * (2 * list_places) + 12)
  behind = stands-right state (lists ++ poc_bytes poc) refp_place (refp_width * (2 * list_places) + 12) (pm-width pm f.state) all-stands

  pub lists-stand : Stands image refp_place (flat_map refp_bytes refp) (refp_width * (2 * list_places))
  lists-stand = stands-left lists (poc_bytes poc) (refp_width * (2 * list_places)) 12 (refps-width refp f.places f.entry) behind

  record-stands : Stands image poc_place (poc_bytes poc) 12
  record-stands = stands-right lists (poc_bytes poc) (refp_width * (2 * list_places)) 12 (refps-width refp f.places f.entry) behind

  -- Contents to bytes and back.
  all_read : (pm_of (image_bytes pm refp poc) ≡ pm) × (refp_of (image_bytes pm refp poc) ≡ refp) × (poc_of (image_bytes pm refp poc) ≡ poc)
  all_read = (pm-read pm f.state state-stands, refps-read refp f.places f.entry lists-stand, poc-read poc f.kept record-stands)

pub contents-kept : ContentsKept
contents-kept = λ pm refp poc f. all_read pm refp poc f
