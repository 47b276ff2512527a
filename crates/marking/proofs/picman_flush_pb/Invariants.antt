use Rattle.std.proofs.Common.{◌≡◌, ◌≤◌, length, map, take}
use Rattle.def.specs.State.{slots}
use Rattle.keys.specs.Keys.{key_unmarked}
use Rattle.marking.proofs.picman_flush_pb.Given as goal

abbrev pub invariant-loop-i : goal.invariant-loop-i
invariant-loop-i l = (l.i ≤ slots) × (length l.keys ≡ slots) × (length l.next ≡ slots) × (take l.i l.next ≡ map key_unmarked (take l.i l.keys))

-- Counted by hand, as must-fail/flush_never_ends.edit has it, the loop needs a measure too:
-- how many places are left.
