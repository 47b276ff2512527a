-- `parsing::read_line` meets its contract. Assumes nothing.
use Rattle.std.proofs.Common.{sym, arith}
use Rattle.line.proofs.CallLaws.{other-line}
use Rattle.parsing.proofs.read_line.Goals as goal

pub returns-in_default : goal.returns-in_default
returns-in_default c = sym (other-line c.args.digits.now (λ e. omega arith) (λ e. omega arith) (λ e. omega arith) (λ e. omega arith))
