-- What bytes stand for fits: so an image and fitting contents are two forms of one thing.
-- Assumes nothing.
use Prim.Native.Nat.{ℕ, ◌+◌, ◌*◌}
use mathlib.Core.List.{List}
use native.Mathlib.Omega.{arith}
use Rattle.seq.proofs.Rows.{length-entries, entries-each}
use Rattle.def.specs.State.{slots, list_places}
use Rattle.def.proofs.WordLaws.{signed-fits}
use Rattle.image.specs.Image.{word_width, slot_width, refp_width, lease_place, scalars_place, refp_place, poc_place}
use Rattle.image.specs.Image.{Bytes, word_at, list_at, slot_at, pm_of, refp_at, refp_of, poc_of}
use Rattle.image.specs.Fits.{FitsWord, ListFits, SlotFits, PmFits, RefPFits, PocFits, ContentsFit}
use Rattle.image.specs.Claims.{BytesFit}

module _ {bs : List ℕ} (bytes : Bytes bs) where
  word_fits : (i : ℕ) → FitsWord (word_at bs i)
  unfolding word_at
  word_fits i = omega (arith, bytes.each i, bytes.each (i + 1), bytes.each (i + 2), bytes.each (i + 3))

  list-fits : (i : ℕ) → ListFits (list_at bs i)
  unfolding list_at
  list-fits i = record {
    size = length-entries (λ k. word_at bs (i + word_width * k)) list_places;
    words = entries-each FitsWord (λ k. word_at bs (i + word_width * k)) list_places (λ k h. word_fits (i + word_width * k));
  }

  slot-fits : (i : ℕ) → SlotFits (slot_at bs i)
  unfolding slot_at
  slot-fits i = record { buffer = bytes.each (i + 1); layer = bytes.each (i + 4); number = word_fits (i + 5); lists = list-fits (i + 9) }

  refp-fits : (i : ℕ) → RefPFits (refp_at bs i)
  unfolding refp_at
  refp-fits i = record { buffer = bytes.each (i + 1); number = word_fits (i + 2); lists = list-fits (i + 6) }

  pm-fits : PmFits (pm_of bs)
  unfolding pm_of
  pm-fits = record {
    size = length-entries (λ k. slot_at bs (0 + slot_width * k)) slots;
    each = entries-each SlotFits (λ k. slot_at bs (0 + slot_width * k)) slots (λ k h. slot-fits (0 + slot_width * k));
    lease = slot-fits lease_place;
    store_limit = bytes.each scalars_place;
    reference_limit = bytes.each (scalars_place + 1);
    store_size = bytes.each (scalars_place + 2);
    references = bytes.each (scalars_place + 3);
    forward = bytes.each (scalars_place + 4);
    backward = bytes.each (scalars_place + 5);
    next_output = word_fits (scalars_place + 6);
    increase = bytes.each (scalars_place + 10);
  }

  poc-fits : PocFits (poc_of bs)
  unfolding poc_of
  poc-fits = record {
    number = signed-fits (word_at bs poc_place) (word_fits poc_place);
    previous = word_fits (poc_place + 4);
    offset = signed-fits (word_at bs (poc_place + 8)) (word_fits (poc_place + 8));
  }

  contents-fit : ContentsFit (pm_of bs) (refp_of bs) (poc_of bs)
  unfolding refp_of
  contents-fit = record {
    state = pm-fits;
    places = length-entries (λ k. refp_at bs (refp_place + refp_width * k)) (2 * list_places);
    entry = entries-each RefPFits (λ k. refp_at bs (refp_place + refp_width * k)) (2 * list_places) (λ k h. refp-fits (refp_place + refp_width * k));
    kept = poc-fits;
  }

pub bytes-fit : BytesFit
bytes-fit = λ bs bytes. contents-fit bytes
