-- Which reads are repeated.
-- Assumes nothing.
use Rattle.std.specs.Prelude.{◌≡◌, ℕ, Ok, Err, Result}
use Rattle.std.specs.IoError.{error_kind}
use Rattle.std.specs.declared.io.Error.{Error}
use Rattle.std.specs.declared.io.ErrorKind.TheVariants.{Interrupted}

-- Whether a signal interrupted the call.
abbrev pub IsInterrupted : Result ℕ Error → Type 0
IsInterrupted (Ok n) = ⊥
IsInterrupted (Err e) = error_kind e ≡ Interrupted
