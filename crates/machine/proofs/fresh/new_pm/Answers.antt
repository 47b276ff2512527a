-- `machine::fresh::new_pm` meets its contract. Assumes nothing.
use Rattle.machine.proofs.fresh.new_pm.Goals as goal

pub returns : goal.returns
returns c = rw c.empty_slot-slot.ensures
