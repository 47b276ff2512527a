use Rattle.std.proofs.Common.{◌≡◌, ◌+◌, ◌*◌, ◌%◌, drop}
use Rattle.seq.specs.Lists.{all_of}
use Rattle.hex_digits.specs.Hex.{is_digit, bytes_of, sum8}
use Rattle.decoding.proofs.decoded_sum.Given as goal

abbrev pub invariant-loop-i : goal.invariant-loop-i
invariant-loop-i l = record {
  hex : all_of is_digit (drop (2 * l.i) l.digits) ≡ all_of is_digit l.digits;
  sum : (l.sum + sum8 (bytes_of (drop (2 * l.i) l.digits))) % 256 ≡ sum8 (bytes_of l.digits);
}
