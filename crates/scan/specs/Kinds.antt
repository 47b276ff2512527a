-- The length of a call line goes by its kind, which its second digit tells; the first is 0.
-- Assumes nothing.
use Rattle.std.specs.Prelude.{ℕ, cond, ◌||◌, eqb, Option, Some, None}

-- How many digits the line of a kind has: get and out 4, init and derive 8, put 24, lists 26.
abbrev pub line_length : ℕ → Option ℕ
line_length kind =
    cond (eqb kind 50 || eqb kind 52) (Some 4)
    (cond (eqb kind 49 || eqb kind 54) (Some 8)
    (cond (eqb kind 51) (Some 24)
    (cond (eqb kind 53) (Some 26) None)))
