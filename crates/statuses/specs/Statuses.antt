-- A call that was done or turned down, as one byte.
-- Assumes nothing.
use Rattle.std.specs.Prelude.{ℕ, Result, Ok, Err}
use Rattle.def.specs.Refusals.{refusal_number}
use Rattle.def.specs.declared.Refusal.{Refusal}

abbrev pub status : Result (Unit {0}) Refusal → ℕ
status (Ok done) = 0
status (Err why) = refusal_number why
