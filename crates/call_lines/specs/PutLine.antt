-- The line of a put that is given by its fields.
-- Assumes nothing.
use Rattle.std.specs.Prelude.{ℕ, cond, Option, Some, None}
use Rattle.line.specs.declared.Call.{Call}
use Rattle.line.specs.Calls.{bad_flags}

-- Flags that no call line may have are a bad line.
abbrev pub put_line : ℕ → ℕ → ℕ → ℕ → Option Call
put_line flags poc layer gap = cond (bad_flags flags) None (Some (Call.PutPic flags poc layer gap))
