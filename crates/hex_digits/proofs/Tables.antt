-- The two tables follow their rules, shown by one computation over the whole of each.
-- Assumes nothing.
use Rattle.std.proofs.Common.{◌≡◌, ℕ, ◌+◌, ◌*◌, ◌/◌, ◌%◌, ◌<◌, cond, eqb, List, slice_index, refl, ap, ◌∙◌, arith, ne_eqb, eq-eqb}
use Rattle.seq.specs.Lists.{entries}
use Rattle.seq.proofs.Rows.{entry}
use Rattle.hex_digits.specs.Hex.{char_value, digit_of}
use Rattle.hex_digits.specs.declared.table.TheConstants.{VALUES, DIGITS}

values-are : VALUES ≡ entries char_value 256
unfolding entries
values-are = refl

pub value-is : (c : ℕ) → c < 256 → slice_index VALUES c ≡ char_value c
value-is c h = ap (λ (t : List ℕ). slice_index t c) values-are ∙ entry char_value 0 256 c h

-- Digit k is the high digit of byte k / 2 where k is even, and else its low one.
abbrev digit_at : ℕ → ℕ
digit_at k = cond (eqb (k % 2) 0) (digit_of (k / 32)) (digit_of (k / 2 % 16))

digits-are : DIGITS ≡ entries digit_at 512
unfolding entries
digits-are = refl

digit-is : (k : ℕ) → k < 512 → slice_index DIGITS k ≡ digit_at k
digit-is k h = ap (λ (t : List ℕ). slice_index t k) digits-are ∙ entry digit_at 0 512 k h

pub high-is : (b : ℕ) → b < 256 → slice_index DIGITS (2 * b) ≡ digit_of (b / 16)
high-is b h =
    let half : 2 * b / 32 ≡ b / 16 = omega arith in
    digit-is (2 * b) (omega arith) ∙ rw (eq-eqb (2 * b % 2) 0 (omega arith), half)

pub low-is : (b : ℕ) → b < 256 → slice_index DIGITS (2 * b + 1) ≡ digit_of (b % 16)
low-is b h =
    let half : (2 * b + 1) / 2 % 16 ≡ b % 16 = omega arith in
    digit-is (2 * b + 1) (omega arith) ∙ rw (ne_eqb ((2 * b + 1) % 2) 0 (λ (e : (2 * b + 1) % 2 ≡ 0). omega arith), half)
