use Rattle.seq.proofs.Stores.{Storing}
use Rattle.image.proofs.parts.write_row.Given as goal

abbrev pub invariant-loop-i : goal.invariant-loop-i
invariant-loop-i g l = Storing g.T.Part.part_bytes g.T.Part.WIDTH l.initial.image l.at l.parts g.row.N l.i l.image
