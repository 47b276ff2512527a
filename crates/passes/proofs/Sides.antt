-- No key stands on both sides of the current number, so two passes in the two directions together take at most all keys.
-- Assumes nothing.
use mathlib.Core.Path.{◌≡◌}
use mathlib.Core.Bool.{true, false}
use mathlib.Core.List.{List}
use Prim.Native.Nat.{ℕ, ◌+◌, ◌≤◌}
use native.Mathlib.Omega.{arith}
use lib.ListN.{length}
use borrow.Author.Tests.{ltb-true, le-ltb}
use Rattle.seq.specs.Lists.{count_if}
use Rattle.seq.proofs.Tests.{count-apart}
use Rattle.ordering.specs.Order.{Key}
use Rattle.passes.specs.declared.Direction.{Direction}
use Rattle.passes.specs.Passes.{opposite, side_of}

pub one_side : (way : Direction) (poc : ℕ) (k : Key) → side_of way poc k ≡ true → side_of (opposite way) poc k ≡ false
one_side Direction.Up poc k e = le-ltb k.poc poc (let h = ltb-true poc k.poc e in omega arith)
one_side Direction.Down poc k e = le-ltb poc k.poc (let h = ltb-true k.poc poc e in omega arith)

pub sides-count : (way : Direction) (poc : ℕ) (ks : List Key) → count_if (side_of way poc) ks + count_if (side_of (opposite way) poc) ks ≤ length ks
sides-count way poc ks = count-apart (side_of way poc) (side_of (opposite way) poc) (one_side way poc) ks
