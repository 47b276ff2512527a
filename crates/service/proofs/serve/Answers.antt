-- The run from the new machine gives what the program writes.
use Rattle.service.proofs.New.{new-writes, new-begins}
use Rattle.service.proofs.serve.Goals as goal

pub returns-clause-all : goal.returns-clause-all
returns-clause-all g c = new-writes _ _ _ c.serve_on.result c.new-teller.ensures c.serve_on.ensures.all

pub returns-clause-beginning : goal.returns-clause-beginning
returns-clause-beginning g c = new-begins _ _ _ c.new-teller.ensures c.serve_on.ensures.beginning
