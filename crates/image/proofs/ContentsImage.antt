-- The bytes of fitting contents are bytes, and an image.
-- Assumes nothing.
use mathlib.Core.Path.{◌≡◌, sym, subst}
use mathlib.Core.Bool.{Bool, true, false}
use mathlib.Core.List.{List, [], ◌∷◌, ◌++◌, flat_map, Memᴰ}
use mathlib.Core.Logic.{⊎_elim}
use Prim.Native.Nat.{ℕ, zero, suc, ◌+◌, ◌*◌, ◌≤◌, ◌<◌}
use native.Mathlib.Omega.{arith}
use lib.Dec.{leb}
use lib.ListN.{length, get_or}
use borrow.Author.Tests.{eq-eqb}
use Rattle.seq.proofs.Tests.{lt-or-ge, and_both}
use Rattle.seq.proofs.Members.{holds-head, holds-tail}
use Rattle.seq.proofs.Rows.{Stands, stands-left, stands-right, stands_at, stands-in-row, tests-hold}
use Rattle.def.specs.State.{slots, list_places, no_slot, no_ref_p}
use Rattle.def.specs.Word.{word_bytes, twos_complement}
use Rattle.def.specs.declared.Slot.{Slot}
use Rattle.def.specs.declared.EvcPm.{EvcPm}
use Rattle.def.specs.declared.EvcRefP.{EvcRefP}
use Rattle.def.specs.declared.EvcPoc.{EvcPoc}
use Rattle.image.specs.Image.{slot_width, refp_width, lease_place, refp_place, image_length, byte_at, Bytes, is_flag, slot_flags, is_image}
use Rattle.image.specs.Image.{flag_byte, list_bytes, slot_bytes, scalar_bytes, pm_bytes, refp_bytes, poc_bytes, image_bytes}
use Rattle.image.specs.Fits.{SlotFits, PmFits, RefPFits, ContentsFit}
use Rattle.image.proofs.ContentsKept.{slot-width, refp-width, row-width, first, wide, state-stands, lists-stand}
use Rattle.image.specs.Claims.{ContentsImage}
use Rattle.image.specs.Claims.{ContentsBytes}

-- ---- each is below 256

none : Bytes []
none = record { each = λ i. omega arith }

more : {n : ℕ} {ns : List ℕ} → n < 256 → Bytes ns → Bytes (n ∷ ns)
more {n} {ns} h p = record { each = at }
  where
    at : (i : ℕ) → byte_at (n ∷ ns) i < 256
    at zero = h
    at (suc i) = p.each i

then : (ms : List ℕ) {ns : List ℕ} → Bytes ms → Bytes ns → Bytes (ms ++ ns)
then [] p q = q
then (m ∷ ms) p q = more (p.each 0) (then ms (record { each = λ i. p.each (suc i) }) q)

row : {A : Type 0} (f : A → List ℕ) (xs : List A) → ((x : A) → Memᴰ x xs → Bytes (f x)) → Bytes (flat_map f xs)
unfolding flat_map
row f [] h = none
row f (x ∷ xs) h = then (f x) (holds-head h) (row f xs (holds-tail h))

flag : (b : Bool) → flag_byte b < 256
flag true = omega arith
flag false = omega arith

four : (n : ℕ) → Bytes (word_bytes n)
four n = more (omega arith) (more (omega arith) (more (omega arith) (more (omega arith) none)))

list-bytes : (ns : List ℕ) → Bytes (list_bytes ns)
unfolding list_bytes
list-bytes ns = row word_bytes ns (λ n m. four n)

slot-bytes : (s : Slot) → SlotFits s → Bytes (slot_bytes s)
unfolding slot_bytes
slot-bytes s f =
    more (flag s.present)
    (more f.buffer
    (more (flag s.pic.is_ref)
    (more (flag s.pic.need_for_out) (more f.layer (then (word_bytes s.pic.poc) (four s.pic.poc) (list-bytes s.pic.list_poc))))))

refp-bytes : (e : EvcRefP) → RefPFits e → Bytes (refp_bytes e)
unfolding refp_bytes
refp-bytes e f = more (flag e.present) (more f.buffer (then (word_bytes e.poc) (four e.poc) (list-bytes e.list_poc)))

scalar-bytes : (pm : EvcPm) → PmFits pm → Bytes (scalar_bytes pm)
unfolding scalar_bytes
scalar-bytes pm f =
    more f.store_limit
    (more f.reference_limit
    (more f.store_size
    (more f.references
    (more f.forward (more f.backward (then (word_bytes pm.poc_next_output) (four pm.poc_next_output) (more f.increase none)))))))

-- ---- each flag byte is 0 or 1

is-flag : (b : Bool) {n : ℕ} → n ≡ flag_byte b → leb n 1 ≡ true
is-flag true e = rw e
is-flag false e = rw e

slot-flags : {bs : List ℕ} {i : ℕ} (s : Slot) → Stands bs i (slot_bytes s) slot_width → slot_flags bs i ≡ true
unfolding slot_bytes
slot-flags s p =
    and_both (is-flag s.present (first p (omega arith)))
    (and_both (is-flag s.pic.is_ref (stands_at p 2 0 (omega arith))) (is-flag s.pic.need_for_out (stands_at p 3 0 (omega arith))))

refp-flag : {bs : List ℕ} {i : ℕ} (e : EvcRefP) → Stands bs i (refp_bytes e) refp_width → is_flag bs i ≡ true
unfolding refp_bytes
refp-flag e p = is-flag e.present (first p (omega arith))

-- ---- the whole

module _ (pm : EvcPm) (refp : List EvcRefP) (poc : EvcPoc) (f : ContentsFit pm refp poc) where
  abbrev image : List ℕ
  image = image_bytes pm refp poc

  all-bytes : Bytes (image_bytes pm refp poc)
  unfolding image_bytes pm_bytes poc_bytes
  all-bytes =
      then (pm_bytes pm)
      (then (flat_map slot_bytes pm.pic) (row slot_bytes pm.pic (λ s m. slot-bytes s (f.state.each s m)))
      (then (slot_bytes pm.pic_lease) (slot-bytes pm.pic_lease f.state.lease) (scalar-bytes pm f.state)))
      (then (flat_map refp_bytes refp) (row refp_bytes refp (λ e m. refp-bytes e (f.entry e m)))
      (then (word_bytes (twos_complement poc.poc_val.0)) (four (twos_complement poc.poc_val.0))
      (then (word_bytes poc.prev_poc_val) (four poc.prev_poc_val) (four (twos_complement poc.prev_doc_offset.0)))))

  pic : List ℕ
  pic = flat_map slot_bytes pm.pic

  behind : List ℕ
  behind = slot_bytes pm.pic_lease ++ scalar_bytes pm

  state-parts : Stands image 0 (pic ++ behind) (lease_place + 104)
  unfolding pm_bytes pic behind
  state-parts = state-stands pm refp poc f

  pic-stands : Stands image 0 (flat_map slot_bytes pm.pic) (slot_width * length pm.pic)
  unfolding pic
  pic-stands =
      subst (λ (n : ℕ). Stands image 0 pic (slot_width * n)) (sym f.state.size)
      (stands-left pic behind lease_place 104 (row-width pm f.state) state-parts)

  lease-stands : Stands image lease_place (slot_bytes pm.pic_lease) slot_width
  unfolding pic behind
  lease-stands =
      stands-left (slot_bytes pm.pic_lease) (scalar_bytes pm) slot_width 11 (slot-width pm.pic_lease f.state.lease)
      (stands-right pic behind lease_place 104 (row-width pm f.state) state-parts)

  in-slots : (k : ℕ) → k < slots + 1 → slot_flags image (0 + slot_width * k) ≡ true
  in-slots k h = ⊎_elim low last (lt-or-ge k slots)
    where
      low : k < slots → slot_flags image (0 + slot_width * k) ≡ true
      low l =
          slot-flags (get_or pm.pic k no_slot)
          (stands-in-row slot_bytes slot_width no_slot pm.pic (λ s m. slot-width s (f.state.each s m)) 0 pic-stands k (let e = f.state.size in omega arith))

      last : slots ≤ k → slot_flags image (0 + slot_width * k) ≡ true
      last g = let e : k ≡ slots = omega arith in rw e (slot-flags pm.pic_lease lease-stands)

  in-lists : (k : ℕ) → k < 2 * list_places → is_flag image (refp_place + refp_width * k) ≡ true
  in-lists k h =
      refp-flag (get_or refp k no_ref_p)
      (stands-in-row refp_bytes refp_width no_ref_p refp (λ e m. refp-width e (f.entry e m)) refp_place
      (subst (λ (n : ℕ). Stands image refp_place (flat_map refp_bytes refp) (refp_width * n)) (sym f.places) (lists-stand pm refp poc f))
      k (let e = f.places in omega arith))

  is-image : is_image (image_bytes pm refp poc) ≡ true
  unfolding is_image
  is-image =
      and_both (eq-eqb (length image) image_length (wide pm refp poc f))
      (and_both (tests-hold (slot_flags image) (λ k. 0 + slot_width * k) (slots + 1) in-slots)
      (tests-hold (is_flag image) (λ k. refp_place + refp_width * k) (2 * list_places) in-lists))

pub contents-image : ContentsImage
contents-image = λ pm refp poc f. is-image pm refp poc f

pub contents-bytes : ContentsBytes
contents-bytes = λ pm refp poc f. all-bytes pm refp poc f
