use Rattle.std.proofs.Common.{◌*◌}
use Rattle.wholeness.proofs.TallyLaws.{Passing}
use Rattle.wholeness.proofs.tally.tally_all.Given as goal

abbrev pub invariant-loop-a : goal.invariant-loop-a
invariant-loop-a l = Passing l.keys l.t (3 * l.a-index)
