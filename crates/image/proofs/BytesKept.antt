-- From bytes to contents and back: the bytes of what an image stands for are the image.
-- Assumes nothing.
use mathlib.Core.Path.{◌≡◌, refl, sym, subst}
use mathlib.Core.Bool.{Bool, true, ◌&&◌}
use mathlib.Core.List.{List, [], ◌∷◌, flat_map}
use Prim.Native.Nat.{ℕ, zero, suc, ◌+◌, ◌*◌, ◌≤◌, ◌<◌}
use native.Mathlib.Omega.{arith}
use lib.Dec.{eqb}
use lib.ListN.{length}
use borrow.Author.Tests.{leb-true, eqb-true}
use Rattle.seq.specs.Lists.{all_of}
use Rattle.seq.proofs.Tests.{and_left, and_right}
use Rattle.seq.proofs.Rows.{Stands, stands_one, stands-then, stands-whole, write-row, test_at}
use Rattle.def.specs.State.{slots, list_places}
use Rattle.def.specs.Word.{word_bytes, twos_complement, signed_of}
use Rattle.def.proofs.WordLaws.{bytes-of-word, complement-of-signed}
use Rattle.image.specs.Image.{slot_width, refp_width, lease_place, scalars_place, refp_place, poc_place, image_length, Bytes, is_flag, slot_flags, is_image}
use Rattle.image.specs.Image.{flag_byte, list_bytes, slot_bytes, scalar_bytes, pm_bytes, refp_bytes, poc_bytes, image_bytes}
use Rattle.image.specs.Image.{byte_at, flag_at, word_at, row_at, list_at, slot_at, pm_of, refp_at, refp_of, poc_of}
use Rattle.image.specs.Claims.{BytesKept}

flag-byte : (b : ℕ) → b ≤ 1 → flag_byte (eqb b 1) ≡ b
flag-byte zero h = refl
flag-byte (suc zero) h = refl
flag-byte (suc (suc b)) h = absurd (omega arith)

-- the three tests of an image
module _ (bs : List ℕ) where
  abbrev long : Bool
  long = eqb (length bs) image_length

  abbrev in-slots : Bool
  in-slots = all_of (slot_flags bs) (row_at (λ i. i) slot_width 0 (slots + 1))

  abbrev in-lists : Bool
  in-lists = all_of (is_flag bs) (row_at (λ i. i) refp_width refp_place (2 * list_places))

  pub image-long : is_image bs ≡ true → length bs ≡ image_length
  unfolding is_image
  image-long e = eqb-true (length bs) image_length (and_left long (in-slots && in-lists) e)

  slots-flagged : is_image bs ≡ true → all_of (slot_flags bs) (row_at (λ i. i) slot_width 0 (slots + 1)) ≡ true
  unfolding is_image
  slots-flagged e = and_left in-slots in-lists (and_right long (in-slots && in-lists) e)

  refps-flagged : is_image bs ≡ true → all_of (is_flag bs) (row_at (λ i. i) refp_width refp_place (2 * list_places)) ≡ true
  unfolding is_image
  refps-flagged e = and_right in-slots in-lists (and_right long (in-slots && in-lists) e)

module _ (bs : List ℕ) (bytes : Bytes bs) where
  one : (i : ℕ) → i < length bs → Stands bs i (byte_at bs i ∷ []) 1
  one i h = stands_one 0 h

  flag-stands : (i : ℕ) → is_flag bs i ≡ true → i < length bs → Stands bs i (flag_byte (flag_at bs i) ∷ []) 1
  flag-stands i e h = subst (λ (b : ℕ). Stands bs i (b ∷ []) 1) (sym (flag-byte (byte_at bs i) (leb-true (byte_at bs i) 1 e))) (one i h)

  word_stands : (i : ℕ) → i + 4 ≤ length bs → Stands bs i (word_bytes (word_at bs i)) 4
  unfolding word_at
  word_stands i h =
      subst (λ (l : List ℕ). Stands bs i l 4)
      (sym
      (bytes-of-word (byte_at bs i) (byte_at bs (i + 1)) (byte_at bs (i + 2)) (byte_at bs (i + 3))
      (bytes.each i) (bytes.each (i + 1)) (bytes.each (i + 2)) (bytes.each (i + 3))))
      (stands-then (stands-then (stands-then (one i (omega arith)) (one (i + 1) (omega arith))) (one (i + 2) (omega arith))) (one (i + 3) (omega arith)))

  list-stands : (i : ℕ) → i + 84 ≤ length bs → Stands bs i (list_bytes (list_at bs i)) 84
  unfolding list_bytes list_at
  list-stands i h = write-row word_bytes 4 (word_at bs) i list_places (λ j k. word_stands (i + 4 * j) (omega arith))

  slot-stands : (i : ℕ) → slot_flags bs i ≡ true → i + slot_width ≤ length bs → Stands bs i (slot_bytes (slot_at bs i)) slot_width
  unfolding slot_bytes slot_at
  slot-stands i e h =
      let flags : (is_flag bs (i + 2) && is_flag bs (i + 3)) ≡ true = and_right (is_flag bs i) (is_flag bs (i + 2) && is_flag bs (i + 3)) e in
      stands-then
      (stands-then
      (stands-then
      (stands-then
      (stands-then
      (stands-then (flag-stands i (and_left (is_flag bs i) (is_flag bs (i + 2) && is_flag bs (i + 3)) e) (omega arith)) (one (i + 1) (omega arith)))
      (flag-stands (i + 2) (and_left (is_flag bs (i + 2)) (is_flag bs (i + 3)) flags) (omega arith)))
      (flag-stands (i + 3) (and_right (is_flag bs (i + 2)) (is_flag bs (i + 3)) flags) (omega arith)))
      (one (i + 4) (omega arith)))
      (word_stands (i + 5) (omega arith)))
      (list-stands (i + 9) (omega arith))

  refp-stands : (i : ℕ) → is_flag bs i ≡ true → i + refp_width ≤ length bs → Stands bs i (refp_bytes (refp_at bs i)) refp_width
  unfolding refp_bytes refp_at
  refp-stands i e h =
      stands-then
      (stands-then (stands-then (flag-stands i e (omega arith)) (one (i + 1) (omega arith))) (word_stands (i + 2) (omega arith)))
      (list-stands (i + 6) (omega arith))

  scalars-stand : scalars_place + 11 ≤ length bs → Stands bs scalars_place (scalar_bytes (pm_of bs)) 11
  unfolding scalar_bytes pm_of
  scalars-stand h =
      stands-then
      (stands-then
      (stands-then
      (stands-then
      (stands-then
      (stands-then
      (stands-then (one scalars_place (omega arith)) (one (scalars_place + 1) (omega arith)))
      (one (scalars_place + 2) (omega arith)))
      (one (scalars_place + 3) (omega arith)))
      (one (scalars_place + 4) (omega arith)))
      (one (scalars_place + 5) (omega arith)))
      (word_stands (scalars_place + 6) (omega arith)))
      (one (scalars_place + 10) (omega arith))

  pm-stands : ((k : ℕ) → k < slots + 1 → slot_flags bs (0 + slot_width * k) ≡ true) → refp_place ≤ length bs → Stands bs 0 (pm_bytes (pm_of bs)) refp_place
  unfolding pm_bytes pm_of
  pm-stands flags h =
      stands-then (write-row slot_bytes slot_width (slot_at bs) 0 slots (λ j k. slot-stands (0 + slot_width * j) (flags j (omega arith)) (omega arith)))
      (stands-then (slot-stands lease_place (flags slots (omega arith)) (omega arith)) (scalars-stand (omega arith)))

  refps-stand : ((k : ℕ) → k < 2 * list_places → is_flag bs (refp_place + refp_width * k) ≡ true) → poc_place ≤ length bs
      → Stands bs refp_place (flat_map refp_bytes (refp_of bs)) (refp_width * (2 * list_places))
  unfolding refp_of
  refps-stand flags h =
      write-row refp_bytes refp_width (refp_at bs) refp_place (2 * list_places)
      (λ j k. refp-stands (refp_place + refp_width * j) (flags j k) (omega arith))

  signed-stands : (i : ℕ) → i + 4 ≤ length bs → Stands bs i (word_bytes (twos_complement (signed_of (word_at bs i)))) 4
  unfolding word_at
  signed-stands i h =
      subst (λ (n : ℕ). Stands bs i (word_bytes n) 4)
      (sym (complement-of-signed (word_at bs i) (omega (arith, bytes.each i, bytes.each (i + 1), bytes.each (i + 2), bytes.each (i + 3))))) (word_stands i h)

  poc-stands : image_length ≤ length bs → Stands bs poc_place (poc_bytes (poc_of bs)) 12
  unfolding poc_bytes poc_of
  poc-stands h =
      stands-then (signed-stands poc_place (omega arith))
      (stands-then (word_stands (poc_place + 4) (omega arith)) (signed-stands (poc_place + 8) (omega arith)))

  -- Bytes to contents and back.
  image-kept : is_image bs ≡ true → image_bytes (pm_of bs) (refp_of bs) (poc_of bs) ≡ bs
  unfolding image_bytes
  image-kept e =
      let size = image-long bs e in
      stands-whole
      (stands-then (pm-stands (test_at (slot_flags bs) (λ k. 0 + slot_width * k) (slots + 1) (slots-flagged bs e)) (omega arith))
      (stands-then
      (refps-stand (test_at (is_flag bs) (λ k. refp_place + refp_width * k) (2 * list_places) (refps-flagged bs e)) (omega arith))
      (poc-stands (omega arith))))
      size

pub bytes-kept : BytesKept
bytes-kept = λ bs bytes e. image-kept bs bytes e
