-- `decoding::decode_array` meets its contract: what one more pair of digits adds. Assumes nothing.
use Rattle.std.proofs.Common.{◌≡◌, ◌+◌, ◌*◌, ◌<◌, [], length, drop, false, rules, sym, ◌∙◌, arith}
use mathlib.Core.List.{append-nil}
use lib.ListN.{length-set, drop_of_length-le}
use lib.Seq.{take_all}
use Rattle.seq.specs.Lists.{all_of}
use Rattle.hex_digits.specs.Hex.{is_digit, bytes_of}
use Rattle.hex_digits.proofs.HexLaws.{both}
use Rattle.hex_digits.proofs.Pairs.{not-hex, digits-pass, pair-bytes}
use Rattle.hex_digits.proofs.Tested.{test-failed, test-passed}
use Rattle.decoding.proofs.decode_array.Goals as goal

pub returns-in_err-bytes : goal.returns-in_err-bytes
returns-in_err-bytes g c =
    let l = c.loop-i in
    let digits = c.args.digits.now in
    let no = test-failed _ _ (sym c.pair_value.ensures ∙ c.in_err-bytes.was) in
    let some_other : all_of is_digit digits ≡ false = sym l.invariant.hex ∙ not-hex digits l.i (omega arith) no in
    rw some_other (search rules)

pub loop-i-preserved : goal.loop-i-preserved
loop-i-preserved g c =
    let l = c.loop-i in
    let digits = c.args.digits.now in
    let h : 2 * l.i + 1 < length digits = omega arith in
    let yes = test-passed _ _ c.in_ok-bytes.field-0 (sym c.pair_value.ensures ∙ c.in_ok-bytes.was) in
    let two = both _ _ yes.0 in
    record {
      within = omega arith;
      wide = length-set l.bytes l.i _ ∙ l.invariant.wide;
      hex = digits-pass digits l.i h two.0 two.1 ∙ l.invariant.hex;
      bytes = pair-bytes digits l.bytes l.i _ h (omega arith) yes.1 ∙ l.invariant.bytes;
    }

pub returns : goal.returns
unfolding all_of bytes_of
returns g c =
    let l = c.loop-i in
    let digits = c.args.digits.now in
    let none : drop (2 * l.i) digits ≡ [] = drop_of_length-le digits {i = 2 * l.i} (omega arith) in
    let hex = rw none at l.invariant.hex in
    let bytes = rw (none, append-nil, take_all l.i l.bytes (omega arith)) at l.invariant.bytes in
    rw (← hex, ← bytes)
