-- `hex_digits::char_value` meets its contract. Assumes nothing.
use mathlib.Core.Path.{◌∙◌}
use Rattle.hex_digits.proofs.Tables.{value-is}
use Rattle.hex_digits.proofs.char_value.Goals as goal

pub returns : goal.returns
returns c = c.value_entry.ensures ∙ value-is c.args.c c.ranges.c.fits
