-- What the teller gives from where it stands.
use Rattle.std.proofs.Common.{arith}
use Rattle.relay.proofs.relay_on.Goals as goal

pub returns-in-Err-clause-beginning : goal.returns-in-Err-clause-beginning
returns-in-Err-clause-beginning g c = c.converse-ended.ensures.beginning (omega arith)

pub returns-in_default-clause-all : goal.returns-in_default-clause-all
returns-in_default-clause-all g c = c.converse-ended.ensures.all (omega arith)

pub returns-in_default-clause-beginning : goal.returns-in_default-clause-beginning
returns-in_default-clause-beginning g c = c.converse-ended.ensures.beginning (omega arith)
