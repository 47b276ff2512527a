use mathlib.Core.Path.{◌≡◌}
use Prim.Native.Nat.{◌≤◌}
use lib.ListN.{set}
use Rattle.seq.specs.Lists.{move_to}
use Rattle.store.proofs.moves.move_last.Given as goal

abbrev pub invariant-loop-i : goal.invariant-loop-i
invariant-loop-i l = (l.i ≤ l.last) × (move_to 0 l.i l.last (set l.keys l.i l.moved) ≡ move_to 0 l.pos l.last l.initial.keys)
