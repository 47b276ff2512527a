use Rattle.std.proofs.Common.{◌≡◌, ◌≤◌, length}
use Rattle.def.specs.State.{slots}
use Rattle.keys.specs.Keys.{Sized}
use Rattle.conversion.proofs.Taken.{Taking}
use Rattle.conversion.proofs.apart.take_slots.Given as goal

abbrev pub invariant-loop-i : goal.invariant-loop-i
invariant-loop-i l = (l.i ≤ slots) × (length l.pic ≡ slots) × Sized l.keys l.rows × Taking l.pic l.initial.rows l.keys l.rows l.i
