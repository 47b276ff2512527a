-- The slots, the lease and the numbers, stored one after the other.
-- Assumes nothing.
use Rattle.seq.proofs.Stores.{stored-then}
use Rattle.image.specs.Image.{pm_bytes}
use Rattle.image.proofs.writing.write_pm.Goals as goal

pub returns : goal.returns
unfolding pm_bytes
returns c = stored-then c.write_row.ensures (stored-then c.write.ensures c.write_scalars.ensures)
