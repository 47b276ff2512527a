-- the slots are taken, and then the lease. Assumes nothing.
use Rattle.conversion.proofs.Taken.{apart-done}
use Rattle.conversion.proofs.apart.take_apart.Goals as goal

pub returns : goal.returns
returns c =
    apart-done c.args.pm c.args.rows.now _ _ _ _ c.requires.rows_long c.take_slots.ensures c.take_slot-lease.ensures
