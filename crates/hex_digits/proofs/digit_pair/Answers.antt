-- `hex_digits::digit_pair` meets its contract. Assumes nothing.
use Rattle.std.proofs.Common.{◌∙◌}
use Rattle.hex_digits.specs.Hex.{digits_of}
use Rattle.hex_digits.proofs.Tables.{high-is, low-is}
use Rattle.hex_digits.proofs.digit_pair.Goals as goal

pub returns : goal.returns
unfolding digits_of
returns c =
    rw (
      c.digit_entry.ensures ∙ high-is c.args.byte c.ranges.byte.fits,
      c.digit_entry-2.ensures ∙ low-is c.args.byte c.ranges.byte.fits,
    )
