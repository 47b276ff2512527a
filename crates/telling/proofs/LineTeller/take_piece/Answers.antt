-- Byte after byte.
use Rattle.telling.proofs.Bytes.{so-far-none, so-far-more}
use Rattle.telling.proofs.LineTeller.take_piece.Goals as goal

pub loop-c-init : goal.loop-c-init
loop-c-init g c = rw (← c.self.view_is) (so-far-none g.L.Lines.told _ _)

pub loop-c-preserved : goal.loop-c-preserved
loop-c-preserved g c = so-far-more g.L.Lines.told _ c.args.piece.now c.loop-c.c-index c.loop-c-test.true c.loop-c.invariant c.take_byte.ensures
