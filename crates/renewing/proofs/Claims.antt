-- The claim of specs/Claims.antt.
-- Assumes nothing.
use mathlib.Core.Path.{refl}
use lib.ListN.{replicate}
use Rattle.keys.specs.Keys.{rows_length}
use Rattle.machine.proofs.Running as running
use Rattle.renewing.specs.Claims.{NewMachine}

pub new-machine : NewMachine
new-machine = running.new-machine (replicate rows_length 0) refl
