-- The new machine on three slices.
-- Assumes nothing.
use Rattle.std.specs.Prelude.{ℕ, ◌≡◌, cond, replicate}
use Rattle.def.specs.State.{slots}
use Rattle.keys.specs.Keys.{rows_length}
use Rattle.registers.specs.Registers.{registers_length}
use Rattle.machine.specs.Lent.{Slices, slices, sized}

-- All is zero.
abbrev pub new_slices : Slices
new_slices = slices (replicate slots 0) (replicate rows_length 0) (replicate registers_length 0)

-- 0, and the new machine, or 18 for a wrong size.
pub record Renewed (r : ℕ) (before after : Slices) : Type 0 where
  pub gives : r ≡ cond (sized before) 0 18
  pub slices_are : after ≡ cond (sized before) new_slices before
