-- A framed line at the front of a buffer: its digits are no newlines, so it ends where its own newline stands.
-- Assumes nothing.
use Prim.Native.Nat.{ℕ, suc, ◌+◌, ◌*◌, ◌%◌, ◌<◌}
use native.Mathlib.Omega.{arith}
use mathlib.Core.Path.{◌≡◌, refl, ap}
use mathlib.Core.Bool.{true, false}
use mathlib.Core.List.{List, [], ◌∷◌, ◌++◌}
use lib.Dec.{eqb}
use lib.ListN.{length, length-append}
use borrow.Author.Tests.{ne_eqb}
use Rattle.seq.specs.Lists.{all_of, lowest}
use Rattle.seq.proofs.Tests.{and_left, and_right}
use Rattle.buffer.specs.Buffer.{newline, is_newline}
use Rattle.hex_digits.specs.Hex.{is_digit, check_byte}
use Rattle.hex_digits.specs.Frame.{AreBytes, with_check, framed}
use Rattle.hex_digits.proofs.HexLaws.{digits-length, each-digit}
use Rattle.hex_digits.proofs.Faithful.{framed-hex}

-- A digit is no newline.
pub not-newline : (c : ℕ) → is_digit c ≡ true → is_newline c ≡ false
not-newline = each-digit (λ (c v : ℕ). is_newline c ≡ false) (λ c h k. from c (omega arith)) (λ c h k. from c (omega arith))
  where
    from : (c : ℕ) → 10 < c → is_newline c ≡ false
    from c h = ne_eqb c 10 (λ (e : c ≡ 10). omega arith)

pub first-newline : (ds rest : List ℕ) → all_of is_digit ds ≡ true → lowest is_newline (ds ++ (newline ∷ rest)) ≡ length ds
unfolding all_of lowest
first-newline [] rest e = refl
first-newline (d ∷ ds) rest e =
    rw (not-newline d (and_left (is_digit d) (all_of is_digit ds) e)) (ap suc (first-newline ds rest (and_right (is_digit d) (all_of is_digit ds) e)))

pub framed-end : (body rest : List ℕ) → AreBytes body → lowest is_newline (framed body ++ (newline ∷ rest)) ≡ length (framed body)
framed-end body rest h =
    first-newline (framed body) rest (and_left (all_of is_digit (framed body)) (eqb (length (framed body) % 2) 0) (framed-hex body h))

pub framed-size : (body : List ℕ) → length (framed body) ≡ 2 * length body + 2
framed-size body = omega (arith, digits-length (with_check body), length-append body (check_byte body ∷ []))
