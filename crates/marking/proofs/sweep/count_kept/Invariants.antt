use mathlib.Core.Path.{◌≡◌}
use mathlib.Core.Bool.{not}
use lib.ListN.{take}
use Rattle.std.specs.List.{count_by}
use Rattle.marking.proofs.sweep.count_kept.Given as goal

abbrev pub invariant-loop-is_picked : goal.invariant-loop-is_picked
invariant-loop-is_picked l = l.kept ≡ count_by not (take l.is_picked-index l.picks)
