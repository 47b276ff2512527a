-- `framing::is_framed` meets its contract: digits throughout, so their bytes decide. Assumes nothing.
use Rattle.std.proofs.Common.{◌≡◌, ℕ, ◌%◌, ◌<◌, false, eqb, length, rules, refl, sym, ap, ◌∙◌, arith}
use borrow.Author.Tests.{lt-ltb}
use Rattle.seq.specs.Lists.{all_of}
use Rattle.hex_digits.specs.Hex.{is_digit, bytes_of, sum8}
use Rattle.hex_digits.specs.Frame.{is_checked}
use Rattle.hex_digits.proofs.HexLaws.{bytes-length}
use Rattle.hex_digits.proofs.Tested.{test-passed}
use Rattle.framing.proofs.Framed.{hex}
use Rattle.framing.proofs.is_framed.Goals as goal

pub returns-then-not-is_empty : goal.returns-then-not-is_empty
returns-then-not-is_empty c =
    let cs = c.args.digits.now in
    let yes = test-passed (all_of is_digit cs) (sum8 (bytes_of cs)) c.in-Some.sum (sym c.decoded_sum.ensures ∙ c.in-Some.is) in
    let even : length cs % 2 ≡ 0 = omega arith in
    let some : length cs ≡ 0 → ⊥ = search rules in
    let size : 0 < length (bytes_of cs) = omega (arith, bytes-length cs) in
    let whole : is_checked (bytes_of cs) ≡ eqb (sum8 (bytes_of cs)) 0 = simp (lt-ltb 0 (length (bytes_of cs)) size) in
    ap (λ (k : ℕ). eqb k 0) yes.1 ∙ sym (hex cs yes.0 even ∙ whole)

pub returns-else-not-is_empty : goal.returns-else-not-is_empty
returns-else-not-is_empty c =
    let cs = c.args.digits.now in
    let yes = test-passed (all_of is_digit cs) (sum8 (bytes_of cs)) c.in-Some.sum (sym c.decoded_sum.ensures ∙ c.in-Some.is) in
    let even : length cs % 2 ≡ 0 = omega arith in
    let none : length cs ≡ 0 = search rules in
    let size : length (bytes_of cs) ≡ 0 = omega (arith, bytes-length cs) in
    let empty : is_checked (bytes_of cs) ≡ false = rw size refl in
    rw c.if-not-is_empty.false (sym (hex cs yes.0 even ∙ empty))
