use Rattle.std.proofs.Common.{◌≡◌, ◌+◌, drop}
use mathlib.Core.Bool.{◌||◌}
use Rattle.seq.specs.Lists.{any_of, lowest}
use Rattle.keys.specs.Keys.{key_wanted}
use Rattle.picman.specs.OnKeys.{key_due}
use Rattle.picman.proofs.out.due_place.Given as goal

abbrev pub invariant-loop-i : goal.invariant-loop-i
invariant-loop-i l =
    (l.i + lowest (key_due l.poc_next_output) (drop l.i l.keys) ≡ lowest (key_due l.poc_next_output) l.keys)
    × ((l.wanted || any_of key_wanted (drop l.i l.keys)) ≡ any_of key_wanted l.keys)
