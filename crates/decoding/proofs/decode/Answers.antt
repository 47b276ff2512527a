-- `decoding::decode` meets its contract: what one more pair of digits adds. Assumes nothing.
use Rattle.std.proofs.Common.{◌≡◌, ◌+◌, ◌*◌, ◌/◌, ◌<◌, [], length, drop, false, rules, sym, ◌∙◌, arith}
use mathlib.Core.List.{append-nil}
use lib.ListN.{length-set, drop_of_length-le}
use Rattle.seq.specs.Lists.{all_of}
use Rattle.hex_digits.specs.Hex.{is_digit, bytes_of}
use Rattle.hex_digits.proofs.HexLaws.{both}
use Rattle.hex_digits.proofs.Pairs.{not-hex, digits-pass, pair-bytes}
use Rattle.hex_digits.proofs.Tested.{test-failed, test-passed}
use Rattle.decoding.proofs.decode.Goals as goal

pub returns-in-None-clause-hex : goal.returns-in-None-clause-hex
returns-in-None-clause-hex c =
    let l = c.loop-i in
    let digits = c.args.digits.now in
    let no = test-failed _ _ (sym c.pair_value.ensures ∙ c.in-None.is) in
    sym (not-hex digits l.i (omega arith) no) ∙ l.invariant.hex

pub loop-i-preserved : goal.loop-i-preserved
loop-i-preserved c =
    let l = c.loop-i in
    let digits = c.args.digits.now in
    let h : 2 * l.i + 1 < length digits = omega arith in
    let yes = test-passed _ _ c.in-Some.byte (sym c.pair_value.ensures ∙ c.in-Some.is) in
    let two = both _ _ yes.0 in
    record {
      within = omega arith;
      wide = length-set l.bytes l.i _ ∙ l.invariant.wide;
      hex = digits-pass digits l.i h two.0 two.1 ∙ l.invariant.hex;
      bytes = pair-bytes digits l.bytes l.i _ h (omega arith) yes.1 ∙ l.invariant.bytes;
    }

pub returns : goal.returns
unfolding all_of bytes_of
returns c =
    let l = c.loop-i in
    let digits = c.args.digits.now in
    let i : l.i ≡ length digits / 2 = omega arith in
    let none : drop (2 * l.i) digits ≡ [] = drop_of_length-le digits {i = 2 * l.i} (omega arith) in
    record {
      hex = rw none at l.invariant.hex;
      bytes = λ f. rw (← i) (rw (none, append-nil) at l.invariant.bytes);
    }
