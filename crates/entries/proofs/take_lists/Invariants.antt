use mathlib.Core.Path.{◌≡◌}
use lib.ListN.{length, take}
use Rattle.keys.specs.Keys.{rows_length, lists_in}
use Rattle.entries.proofs.take_lists.Given as goal

abbrev pub invariant-loop-j : goal.invariant-loop-j
invariant-loop-j l = (length l.rows ≡ rows_length) × (take l.j (lists_in l.rows) ≡ take l.j l.refp)
