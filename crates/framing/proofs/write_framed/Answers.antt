-- `framing::write_framed` meets its contract: the digits of the body, those of its check byte, and the newline.
-- Assumes nothing.
use Rattle.std.proofs.Common.{◌≡◌, ◌/◌, ◌%◌, get_or, refl, arith}
use Rattle.seq.proofs.Stores.{stored_one, stored-then}
use Rattle.hex_digits.specs.Hex.{digit_of, digits_of}
use Rattle.framing.proofs.Pasted.{stored-paste, line-stored}
use Rattle.framing.proofs.write_framed.Goals as goal

pub returns : goal.returns
unfolding digits_of
returns c =
    let body = c.args.body.now in
    let check = c.closing_byte.result in
    let high : get_or c.digit_pair.result 0 0 ≡ digit_of (check / 16) = rw c.digit_pair.ensures refl in
    let low : get_or c.digit_pair.result 1 0 ≡ digit_of (check % 16) = rw c.digit_pair.ensures refl in
    (refl, stored-paste (line-stored body check c.write_digits.ensures c.closing_byte.ensures (stored-then (stored_one _ high) (stored_one _ low))) (omega arith))
