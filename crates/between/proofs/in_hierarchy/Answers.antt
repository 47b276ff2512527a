-- `between::in_hierarchy` meets its contract: no depth is 0. Assumes nothing.
use Prim.Native.Nat.{ℕ, ◌≤◌}
use native.Mathlib.Omega.{arith}
use Rattle.tbl.specs.DepthRows.{depth_rule}
use Rattle.between.proofs.in_hierarchy.Goals as goal

above_zero : (j : ℕ) → 1 ≤ depth_rule j
unfolding depth_rule
above_zero j = omega arith

pub overflow_sub-slice_depth : goal.overflow_sub-slice_depth
overflow_sub-slice_depth c = rw c.depth_at-slice_depth.ensures (above_zero _)
