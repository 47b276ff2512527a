-- One more character.
use Rattle.telling.proofs.Bytes.{keep-so-far}
use Rattle.telling.proofs.LineTeller.from_line.Goals as goal

pub loop-c-preserved : goal.loop-c-preserved
loop-c-preserved g c = keep-so-far c.args.line.now c.loop-c.c-index c.args.number c.loop-c-test.true c.loop-c.invariant c.keep.ensures
