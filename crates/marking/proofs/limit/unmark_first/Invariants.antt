use Rattle.std.proofs.Common.{◌≡◌, map, length, ℕ, List}
use Rattle.def.specs.State.{slots}
use Rattle.keys.specs.Keys.{slot_at}
use Rattle.marking.proofs.Steps.{Noted}
use Rattle.marking.proofs.limit.unmark_first.Given as goal

abbrev pub invariant-loop-i : goal.invariant-loop-i
invariant-loop-i l = (length l.keys ≡ slots) × ((rows : List ℕ) → Noted l.n (map (slot_at rows) l.fn.keys) (map (slot_at rows) l.keys) l.notes l.left l.i)
