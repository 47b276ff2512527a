-- The parts so far have been told.
use Rattle.std.proofs.Common.{◌≤◌}
use Rattle.std.specs.Slice.Iter.{chunks_rest, chunks_size}
use Rattle.telling.specs.Telling.{piece_room}
use Rattle.telling.proofs.Bytes.{PartsTold}
use Rattle.telling.proofs.tell_piece.Given as goal

abbrev pub invariant-loop-part : goal.invariant-loop-part
invariant-loop-part g l =
    (goal.iterator-loop-part g).can_next l.part-iterator
    × (goal.iterator-loop-part g).is_finite l.part-iterator
    × (chunks_size l.part-iterator ≤ piece_room)
    × PartsTold g.L.Lines.told l.fn.teller.speaker l.fn.piece l.fn.out l.fn.err l.teller (chunks_rest l.part-iterator) l.out l.err l.told.out l.told.err
