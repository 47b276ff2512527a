-- From line 1 on, what the teller gives is what the lines of the input give.
use Rattle.relay.proofs.Claims.{all-told, begun-told}
use Rattle.relay.proofs.relay.Goals as goal

pub returns-clause-all : goal.returns-clause-all
returns-clause-all g c =
    all-told g.L.Lines.told g.met.L.Lines.kept_tells _ _ _ _ _ c.relay_on.result (rw c.new-teller.ensures at c.relay_on.ensures.all)

pub returns-clause-beginning : goal.returns-clause-beginning
returns-clause-beginning g c =
    begun-told g.L.Lines.told g.met.L.Lines.kept_tells _ _ _ (rw c.new-teller.ensures at c.relay_on.ensures.beginning)
