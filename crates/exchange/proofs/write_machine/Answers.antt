-- `exchange::write_machine` meets its contract: the whole image is written, and a machine that is passed fits it.
-- Assumes nothing.
use Rattle.exchange.proofs.Ranges.{holds}
use Rattle.exchange.proofs.write_machine.Goals as goal

pub returns : goal.returns
returns c =
    let e = c.write_image.ensures in
    record { bytes = e; holds = rw e (holds c.args.machine _ c.well_formed.1.0) }
