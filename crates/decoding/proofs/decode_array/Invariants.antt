use Rattle.std.proofs.Common.{◌≡◌, ◌*◌, ◌≤◌, ◌++◌, length, drop, take}
use Rattle.seq.specs.Lists.{all_of}
use Rattle.hex_digits.specs.Hex.{is_digit, bytes_of}
use Rattle.decoding.proofs.decode_array.Given as goal

abbrev pub invariant-loop-i : goal.invariant-loop-i
invariant-loop-i g l = record {
  within : l.i ≤ l.i-end;
  wide : length l.bytes ≡ l.i-end;
  hex : all_of is_digit (drop (2 * l.i) l.digits) ≡ all_of is_digit l.digits;
  bytes : take l.i l.bytes ++ bytes_of (drop (2 * l.i) l.digits) ≡ bytes_of l.digits;
}
