-- The line that is not finished yet between two pieces of the input: its first 27 characters are kept, and they decide what it says,
-- since a line of more than 26 characters is bad.
-- Assumes nothing.
use Rattle.std.specs.Prelude.{ℕ, List}

-- How many characters are kept.
abbrev pub kept_length : ℕ
kept_length = 27

-- What is kept: the characters, and what lies behind them, which no contract speaks of.
pub record Kept : Type 0 where
  pub items : List ℕ
  pub spare : List ℕ
