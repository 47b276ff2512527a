use Rattle.std.proofs.Common.{◌≡◌, map, length, ℕ, List, drop}
use Rattle.def.specs.State.{slots}
use Rattle.keys.specs.Keys.{slot_at}
use Rattle.marking.specs.Marking.{last_walk}
use Rattle.marking.proofs.limit.last_walk.Given as goal

abbrev pub invariant-loop-i : goal.invariant-loop-i
invariant-loop-i l = (length l.keys ≡ slots) × ((rows : List ℕ) → last_walk (drop l.i l.notes) l.i (map (slot_at rows) l.keys) ≡ last_walk l.notes 0 (map (slot_at rows) l.fn.keys))
