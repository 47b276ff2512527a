-- The highest place whose element passes a test, if there is one.
-- Assumes nothing.
use Rattle.std.specs.Prelude.{ℕ, Bool, cond, List, Option, Some, None}
use Rattle.seq.specs.Lists.{any_of, highest}

abbrev pub highest_place : {A : Type 0} → (A → Bool) → List A → Option ℕ
highest_place p xs = cond (any_of p xs) (Some (highest p xs)) None
