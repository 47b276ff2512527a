-- `adding::number_stands` meets its contract: the numbers stand in a row of their own. Assumes nothing.
use mathlib.Core.Path.{◌∙◌}
use native.Mathlib.Omega.{arith}
use Rattle.adding.proofs.Numbers.{numbers-tell}
use Rattle.adding.proofs.number_stands.Goals as goal

pub returns : goal.returns
returns c = c.contains.ensures.value ∙ numbers-tell c.args.rows.now c.requires.0 c.args.from c.args.n c.requires.1 c.args.poc _ (omega arith)
