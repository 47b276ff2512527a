use mathlib.Core.Path.{◌≡◌}
use mathlib.Core.Bool.{false, ◌||◌}
use Prim.Native.Nat.{ℕ, ◌<◌}
use lib.Dec.{eqb}
use lib.ListN.{length, drop, get_or}
use Rattle.seq.specs.Lists.{any_of}
use Rattle.keys.specs.Keys.{key_buffers}
use Rattle.store.proofs.buffers.held_buffers.Given as goal

abbrev pub invariant-loop-key : goal.invariant-loop-key
invariant-loop-key l =
    (length l.held ≡ 32)
    × ((b : ℕ) → b < 32 → (get_or l.held b false || any_of (eqb b) (key_buffers (drop l.key-index l.keys))) ≡ any_of (eqb b) (key_buffers l.keys))
