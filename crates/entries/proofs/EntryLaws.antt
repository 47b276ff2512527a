-- An entry by value, and as its parts; the lists taken place by place.
-- Assumes nothing.
use mathlib.Core.Path.{◌≡◌, refl, sym, ap, ◌∙◌}
use mathlib.Core.List.{List}
use Prim.Native.Nat.{ℕ, ◌+◌, ◌/◌, ◌%◌, ◌<◌, ◌≤◌}
use native.Mathlib.Omega.{arith}
use mir.Val.{bool_byte}
use lib.ListN.{length, get_or, take}
use lib.Seq.{take_all}
use Rattle.seq.proofs.Maps.{copy-turn}
use Rattle.def.specs.declared.{EvcRefP.EvcRefP}
use Rattle.keys.specs.Keys.{rows_length, head_of, lists_in}
use Rattle.keys.proofs.KeyLaws.{bit, small}
use Rattle.refp.specs.Running.{entry_with, EntryStored}
use Rattle.refp.proofs.Entries.{lists-long}
use Rattle.entries.specs.Entries.{places, ListsTaken}

-- Twice the buffer number plus the flag is read back.
pub entry-parts : (e : EvcRefP) → e.buf < 256 → entry_with (head_of e) e.poc e.list_poc ≡ e
entry-parts e h =
    let s = small e.present in
    let low : head_of e % 2 ≡ bool_byte e.present = omega arith in
    let high : head_of e / 2 ≡ e.buf = omega arith in
    let buf : head_of e / 2 % 256 ≡ e.buf = rw high (omega arith) in
    rw (low, bit e.present, buf) refl

-- ---- the lists, taken from the first place on

module _ (refp : List EvcRefP) (many : length refp ≡ places) where
  pub take-turn : (d : EvcRefP) (rows after : List ℕ) (j : ℕ) → j < places → take j (lists_in rows) ≡ take j refp → EntryStored rows after j (get_or refp j d)
      → take (j + 1) (lists_in after) ≡ take (j + 1) refp
  take-turn d rows after j h e s = ap (take (j + 1)) s.lists_are ∙ copy-turn d refp (lists_in rows) j (omega arith) (omega (arith, lists-long rows)) e

  pub take-end : (rows : List ℕ) (j : ℕ) → length rows ≡ rows_length → places ≤ j → take j (lists_in rows) ≡ take j refp → ListsTaken refp rows
  take-end rows j long h e = record {
    lists_are = sym (take_all j (lists_in rows) (omega (arith, lists-long rows))) ∙ e ∙ take_all j refp (omega arith);
    rows_long = long;
  }
