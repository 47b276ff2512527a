-- The sum with one byte more.
-- Assumes nothing.
use Rattle.std.proofs.Common.{◌≡◌, ℕ, ◌+◌, ◌%◌, List, [], ◌∷◌, ◌++◌, ap, ◌∙◌, sym, arith}
use Rattle.hex_digits.specs.Hex.{sum8}
use Rattle.hex_digits.proofs.HexLaws.{sum8-append}

last : (a x : ℕ) → (a + (x + 0) % 256) % 256 ≡ (a + x) % 256
last a x = omega arith

pub sum-then : (bytes : List ℕ) (sum byte next : ℕ) → sum ≡ sum8 bytes → next ≡ (sum + byte) % 256 → next ≡ sum8 (bytes ++ (byte ∷ []))
unfolding sum8
sum-then bytes sum byte next e f =
    f ∙ ap (λ (s : ℕ). (s + byte) % 256) e ∙ sym (sum8-append bytes (byte ∷ []) ∙ last (sum8 bytes) byte)
