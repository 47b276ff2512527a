-- What a program writes for its input, line by line; `told` is what it makes of a line with its number.
-- Assumes nothing.
use Rattle.std.specs.Prelude.{ℕ, ◌+◌, ◌%◌, ◌^◌, List, [], ◌∷◌, ◌++◌}
use Rattle.buffer.specs.Buffer.{lines_from}
use Rattle.asking.specs.Asked.{Texts, texts}
use Rattle.saying.specs.Words.{said_line}

-- For an answer line its words; for a line of commands `asked` says it.
abbrev pub said : ℕ → List ℕ → Texts
said number line = texts (said_line number line) []

abbrev pub joined : Texts → Texts → Texts
joined a b = texts (a.out ++ b.out) (a.err ++ b.err)

-- Lines are counted in 64 bits.
abbrev pub next_number : ℕ → ℕ
next_number n = (n + 1) % 2 ^ 64

unfoldable pub told_lines : (ℕ → List ℕ → Texts) → ℕ → List (List ℕ) → Texts
told_lines told number [] = texts [] []
told_lines told number (l ∷ ls) = joined (told number l) (told_lines told (next_number number) ls)

-- The lines of the input, the first of which has number 1; a last line may lack its newline.
unfoldable pub told_input : (ℕ → List ℕ → Texts) → List ℕ → Texts
unfolding told_lines lines_from
told_input told input = told_lines told 1 (lines_from [] input)
