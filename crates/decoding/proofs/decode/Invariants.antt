use Rattle.std.proofs.Common.{◌≡◌, ◌*◌, ◌≤◌, ◌++◌, length, drop, take}
use Rattle.seq.specs.Lists.{all_of}
use Rattle.hex_digits.specs.Hex.{is_digit, bytes_of}
use Rattle.decoding.proofs.decode.Given as goal

abbrev pub invariant-loop-i : goal.invariant-loop-i
invariant-loop-i l = record {
  within : l.i ≤ l.n;
  wide : length l.bytes ≡ length l.initial.bytes;
  hex : all_of is_digit (drop (2 * l.i) l.digits) ≡ all_of is_digit l.digits;
  bytes : take l.i l.bytes ++ bytes_of (drop (2 * l.i) l.digits) ≡ bytes_of l.digits;
}
