-- `framing::write_digits` meets its contract. The loop's invariant: the digits of the bytes so far are stored.
-- Assumes nothing.
use Rattle.std.proofs.Common.{◌≡◌, ℕ, ◌+◌, List, [], ◌∷◌, length, refl, sym, subst}
use mathlib.Core.List.{flat_map}
use native.Mathlib.Nat.{zero-add}
use Rattle.seq.specs.Lists.{Stored}
use Rattle.seq.proofs.Stores.{storing-none, storing-turn, storing-end}
use Rattle.hex_digits.specs.Hex.{digits_of}
use Rattle.framing.proofs.write_digits.Goals as goal

abbrev digits : ℕ → List ℕ
digits b = digits_of (b ∷ [])

all_digits : (bs : List ℕ) → flat_map digits bs ≡ digits_of bs
unfolding flat_map digits_of
all_digits [] = refl
all_digits (b ∷ bs) = rw (all_digits bs)

from_front : {bs ys after : List ℕ} {k n : ℕ} → Stored bs k ys n after → Stored bs (0 + k) ys n after
from_front {bs} {ys} {after} {k} {n} p = subst (λ (j : ℕ). Stored bs j ys n after) (sym (zero-add k)) p

pub loop-i-init : goal.loop-i-init
loop-i-init c =
    let a = c.args in
    storing-none digits 2 a.target.now 0 a.bytes.now (length a.bytes.now)

pub loop-i-preserved : goal.loop-i-preserved
loop-i-preserved c =
    let l = c.loop-i in
    let a = c.args in
    storing-turn digits 2 a.target.now 0 a.bytes.now (length a.bytes.now) 0 refl c.loop-i-test.true l.invariant
    (from_front c.write_byte.ensures)

pub returns : goal.returns
returns c =
    let l = c.loop-i in
    let a = c.args in
    rw (← all_digits a.bytes.now) (storing-end digits 2 a.target.now 0 a.bytes.now (length a.bytes.now) refl c.loop-i-test.false l.invariant)
