use Prim.Native.Nat.{◌-◌}
use lib.ListN.{length}
use Rattle.machine.specs.Running.{machine_in, Runs}
use Rattle.run.proofs.Feeding.{runner_of}
use Rattle.run.proofs.Turns.{Going}
use Rattle.run.proofs.run_piece.Given as goal

abbrev pub invariant-loop-line : goal.invariant-loop-line
invariant-loop-line l =
    Going (runner_of (machine_in l.initial.keys l.initial.rows l.initial.session.scalars) l.initial.session.partial.items) l.piece l.initial.out
    (machine_in l.keys l.rows l.session.scalars) l.session.partial.items l.at l.len l.out
    × Runs l.keys l.rows l.session.scalars

abbrev pub decreases-loop-line : goal.decreases-loop-line
decreases-loop-line l = length l.piece - l.at
