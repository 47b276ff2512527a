-- `machine::fresh::new_machine` meets its contract. Assumes nothing.
use Rattle.machine.proofs.fresh.new_machine.Goals as goal

pub returns : goal.returns
returns c = rw (c.new_poc-poc.ensures, c.new_refp-refp.ensures, c.new_pm-pm.ensures)
