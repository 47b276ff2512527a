-- `machine::fresh::new_scalars` meets its contract. Assumes nothing.
use mathlib.Core.Path.{refl}
use Rattle.machine.proofs.fresh.new_scalars.Goals as goal

pub returns : goal.returns
returns c = rw c.new_poc-poc.ensures refl
