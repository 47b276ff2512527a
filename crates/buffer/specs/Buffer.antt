-- The lines of a buffer: a newline ends a line, and nothing else does.
-- Assumes nothing.
use Rattle.std.specs.Prelude.{ℕ, ◌+◌, Bool, cond, List, [], ◌∷◌, ◌++◌, eqb, take, drop}
use Rattle.seq.specs.Lists.{lowest}

abbrev pub newline : ℕ
newline = 10

abbrev pub is_newline : ℕ → Bool
is_newline c = eqb c newline

-- A last line may lack its newline; nothing after the last newline is no line.
abbrev pub last_line : List ℕ → List (List ℕ)
last_line [] = []
last_line (c ∷ cs) = (c ∷ cs) ∷ []

-- The lines of a buffer, where `line` stands before it.
unfoldable pub lines_from : List ℕ → List ℕ → List (List ℕ)
lines_from line [] = last_line line
lines_from line (c ∷ cs) = cond (is_newline c) (line ∷ lines_from [] cs) (lines_from (line ++ (c ∷ [])) cs)

-- The place of the first newline from a place on, or the buffer's length where there is none; and the characters up to it.
abbrev pub line_end : List ℕ → ℕ → ℕ
line_end buffer at = at + lowest is_newline (drop at buffer)

abbrev pub line_at : List ℕ → ℕ → List ℕ
line_at buffer at = take (lowest is_newline (drop at buffer)) (drop at buffer)
