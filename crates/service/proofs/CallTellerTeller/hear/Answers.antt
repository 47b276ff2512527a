-- The piece was run over.
use Rattle.service.proofs.Hearing.{hears}
use Rattle.service.proofs.CallTellerTeller.hear.Goals as goal

pub returns : goal.returns
returns c =
    rw (← c.self.view_is) (hears c.run_piece-self-inside.ensures)
