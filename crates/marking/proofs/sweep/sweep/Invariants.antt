use Rattle.marking.specs.OnKeys.{flagged}
use Rattle.keys.specs.Keys.{key_unmarked}
use Rattle.seq.proofs.Partition.{Parted}
use Rattle.marking.proofs.sweep.sweep.Given as goal

abbrev pub invariant-loop-i : goal.invariant-loop-i
invariant-loop-i l = Parted (flagged l.picks) key_unmarked l.keys l.next l.first l.kept l.picked l.i
