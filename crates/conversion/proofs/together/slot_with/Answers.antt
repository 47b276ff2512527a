-- by what its parts ensure. Assumes nothing.
use Rattle.conversion.proofs.together.slot_with.Goals as goal

pub returns : goal.returns
returns c = rw (c.buffer_byte.ensures, c.layer_of.ensures, c.number_of.ensures, c.is_present.ensures)
