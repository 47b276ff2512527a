use Rattle.storing.proofs.Entering.{Entering}
use Rattle.storing.proofs.write_entries.Given as goal

abbrev pub invariant-loop-j : goal.invariant-loop-j
invariant-loop-j l = Entering l.keys l.list l.initial.rows l.from l.rows l.j
