-- `decoding::decoded_sum` meets its contract: what one more pair of digits adds to the sum. Assumes nothing.
use Rattle.std.proofs.Common.{◌≡◌, ℕ, ◌+◌, ◌*◌, ◌%◌, ◌<◌, List, [], length, get_or, drop, false, rules, refl, sym, ap, ◌∙◌, arith}
use lib.ListN.{drop_of_length-le}
use Rattle.seq.specs.Lists.{all_of}
use Rattle.hex_digits.specs.Hex.{is_digit, digit_value, bytes_of, sum8}
use Rattle.hex_digits.proofs.HexLaws.{both, sum8-fits}
use Rattle.hex_digits.proofs.Pairs.{drop-pair, not-hex, digits-pass}
use Rattle.hex_digits.proofs.Tested.{test-failed, test-passed}
use Rattle.decoding.proofs.decoded_sum.Goals as goal

pair-sum : (cs : List ℕ) (i : ℕ) → 2 * i + 1 < length cs
    → sum8 (bytes_of (drop (2 * i) cs))
    ≡ (16 * digit_value (get_or cs (2 * i) 0) + digit_value (get_or cs (2 * i + 1) 0) + sum8 (bytes_of (drop (2 * (i + 1)) cs))) % 256
unfolding bytes_of sum8
pair-sum cs i h = ap (λ (l : List ℕ). sum8 (bytes_of l)) (drop-pair cs i h)

pub loop-i-init : goal.loop-i-init
loop-i-init c = record { hex = refl; sum = omega (arith, sum8-fits (bytes_of c.args.digits.now)) }

pub returns-in_err-sum : goal.returns-in_err-sum
returns-in_err-sum c =
    let l = c.loop-i in
    let digits = c.args.digits.now in
    let no = test-failed _ _ (sym c.pair_value.ensures ∙ c.in_err-sum.was) in
    let some_other : all_of is_digit digits ≡ false = sym l.invariant.hex ∙ not-hex digits l.i (omega arith) no in
    rw some_other (search rules)

pub loop-i-preserved : goal.loop-i-preserved
loop-i-preserved c =
    let l = c.loop-i in
    let digits = c.args.digits.now in
    let h : 2 * l.i + 1 < length digits = omega arith in
    let yes = test-passed _ _ c.in_ok-sum.field-0 (sym c.pair_value.ensures ∙ c.in_ok-sum.was) in
    let two = both _ _ yes.0 in
    let byte = yes.1 in
    let more = pair-sum digits l.i h in
    record { hex = digits-pass digits l.i h two.0 two.1 ∙ l.invariant.hex; sum = omega arith }

pub returns : goal.returns
unfolding all_of bytes_of sum8
returns c =
    let l = c.loop-i in
    let digits = c.args.digits.now in
    let none : drop (2 * l.i) digits ≡ [] = drop_of_length-le digits {i = 2 * l.i} (omega arith) in
    let hex = rw none at l.invariant.hex in
    let sum = rw none at l.invariant.sum in
    let is : l.sum ≡ sum8 (bytes_of digits) = omega arith in
    rw (← hex, ← is) refl
