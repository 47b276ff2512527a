use mathlib.Core.Path.{◌≡◌}
use lib.ListN.{take}
use Rattle.std.specs.List.{count_by}
use Rattle.keys.specs.Keys.{key_marked}
use Rattle.store.proofs.places.count_marked.Given as goal

abbrev pub invariant-loop-key : goal.invariant-loop-key
invariant-loop-key l = l.marked ≡ count_by key_marked (take l.key-index l.keys)
