-- All zero is the new machine. The proof stands in proofs/Claims.antt.
-- Assumes nothing.
use Rattle.std.specs.Prelude.{◌≡◌}
use Rattle.machine.specs.Lent.{machine_at}
use Rattle.machine.specs.Step.{new_machine}
use Rattle.renewing.specs.Renewed.{new_slices}

abbrev pub NewMachine : Type 0
NewMachine = machine_at new_slices ≡ new_machine
