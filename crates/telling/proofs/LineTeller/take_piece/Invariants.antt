-- The bytes so far have been told.
use Rattle.telling.proofs.Bytes.{SoFar}
use Rattle.telling.proofs.LineTeller.take_piece.Given as goal

abbrev pub invariant-loop-c : goal.invariant-loop-c
invariant-loop-c g l = SoFar g.L.Lines.told l.fn.self.speaker l.piece l.c-index l.self
