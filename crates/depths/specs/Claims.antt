-- No depth is 0, so the number tells whether there is one. The proofs stand in proofs/Depths.antt.
-- Assumes nothing.
use Rattle.std.specs.Prelude.{ℕ, ◌≡◌, Err}
use Rattle.def.specs.declared.Refusal.{Refusal}
use Rattle.tbl.specs.DepthRows.{slice_depth, slice_depth_p}
use Rattle.depths.specs.Depths.{depth_or_zero}

abbrev pub DepthZero : Type 0
DepthZero = (n j : ℕ) → depth_or_zero (slice_depth n j) ≡ 0 → slice_depth n j ≡ Err Refusal.BadLength

abbrev pub DepthPZero : Type 0
DepthPZero = (n j : ℕ) → depth_or_zero (slice_depth_p n j) ≡ 0 → slice_depth_p n j ≡ Err Refusal.BadLength
