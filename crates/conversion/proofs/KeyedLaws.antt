-- One slot taken apart: its key and its row, by whether it keeps its own rules and holds a picture.
-- Assumes nothing.
use mathlib.Core.Path.{◌≡◌, refl}
use mathlib.Core.Bool.{true, false, ◌&&◌}
use mathlib.Core.List.{List, [], ◌∷◌}
use Prim.Native.Nat.{ℕ, ◌*◌, ◌<◌}
use lib.Dec.{eqb}
use lib.Seq.{paste}
use Rattle.std.specs.List.{list_all}
use Rattle.seq.specs.Lists.{all_of}
use borrow.Author.Tests.{ltb-true}
use Rattle.seq.proofs.Tests.{and_left, and_right}
use Rattle.def.specs.State.{slots}
use Rattle.def.specs.declared.{Slot.Slot}
use Rattle.keys.specs.Keys.{key_made, row_length}
use Rattle.whole.specs.Whole.{zero_if_empty, poc_fits}
use Rattle.whole.specs.Rules.{Zero}
use Rattle.whole.proofs.Laws.{zero-from}
use Rattle.conversion.specs.Keyed.{slot_fits, buffer_fits, key_for, rows_with}

abbrev key_of : Slot → ℕ
key_of s = key_made s.pic.poc s.pic.temporal_id s.buf s.pic.need_for_out s.pic.is_ref

pub all-same : (ns : List ℕ) → all_of (λ n. eqb n 0) ns ≡ list_all (λ n. eqb n 0) ns
unfolding all_of
all-same [] = refl
all-same (n ∷ ns) = rw (all-same ns) refl

module _ (s : Slot) where
  pub key-stray : slot_fits s ≡ false → key_for s ≡ 2
  key-stray e = rw e refl

  pub key-none : slot_fits s ≡ true → s.present ≡ false → key_for s ≡ 0
  key-none e p = rw (e, p) refl

  pub key-held : slot_fits s ≡ true → s.present ≡ true → key_for s ≡ key_of s
  key-held e p = rw (e, p) refl

  pub rows-kept : slot_fits s ≡ false → (rows : List ℕ) → rows_with rows s ≡ rows
  rows-kept e rows = rw e refl

  pub rows_none : slot_fits s ≡ true → s.present ≡ false → (rows : List ℕ) → rows_with rows s ≡ rows
  rows_none e p rows = rw (e, p) refl

  pub rows-held : slot_fits s ≡ true → s.present ≡ true → (rows : List ℕ) → rows_with rows s ≡ paste rows (row_length * s.buf) s.pic.list_poc row_length
  rows-held e p rows = rw (e, p) refl

  pub buffer_below : slot_fits s ≡ true → s.present ≡ true → s.buf < slots
  buffer_below e p = ltb-true s.buf slots (rw p at (and_right (poc_fits s) (buffer_fits s) (and_right (zero_if_empty s) (poc_fits s && buffer_fits s) e)))

  pub zero : slot_fits s ≡ true → s.present ≡ false → Zero s
  zero e p = zero-from s (and_left (zero_if_empty s) (poc_fits s && buffer_fits s) e) p
