-- What the two depth functions give C: the depth, or 0 where it is refused.
-- Assumes nothing.
use Rattle.std.specs.Prelude.{ℕ, Result}
use Rattle.std.specs.Result.{result_unwrap_or}
use Rattle.def.specs.declared.Refusal.{Refusal}

abbrev pub depth_or_zero : Result ℕ Refusal → ℕ
depth_or_zero depth = result_unwrap_or depth 0
