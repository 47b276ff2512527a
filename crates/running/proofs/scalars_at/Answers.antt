-- `running::scalars_at` meets its contract: by what its parts ensure. Assumes nothing.
use Rattle.running.proofs.Answering.{scalars-are}
use Rattle.running.proofs.scalars_at.Goals as goal

pub returns : goal.returns
returns c = scalars-are c.args.registers.now c.rest_of-rest.ensures c.poc_of-poc.ensures
