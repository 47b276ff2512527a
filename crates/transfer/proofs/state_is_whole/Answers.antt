-- `transfer::state_is_whole` meets its contract: the test on the keys is one on the state. Assumes nothing.
use mathlib.Core.Path.{◌∙◌}
use Rattle.transfer.proofs.state_is_whole.Goals as goal

pub returns : goal.returns
returns c = c.is_whole.ensures _ ∙ c.take_machine-s.ensures.same_whole
