-- A reader of answer lines at a position of a buffer: an answer, or refusal 18 with the place where the line begins (the first byte's is 0), or, at the
-- end or past it, no more; then it goes on after the next newline, after a refusal too.
-- Assumes nothing.
use Rattle.std.specs.Prelude.{ℕ, zero, suc, ◌+◌, cond, List, [], ◌∷◌, ltb, length, Option, Some, None, Result, ok_or}
use Rattle.seq.specs.Lists.{lowest}
use Rattle.hex_digits.specs.Hex.{bytes_of, sum8}
use Rattle.hex_digits.specs.Frame.{body_of, from_line}
use Rattle.buffer.specs.Buffer.{line_end, line_at}
use Rattle.line.specs.Answers.{answer_kind}
use Rattle.line.specs.declared.Reply.{Reply}
use Rattle.reader.specs.declared.BadLine.{BadLine}

-- That no answer line begins at a place.
abbrev pub bad_line : ℕ → BadLine
bad_line at = record { at = at }

-- What a line says that begins at a place.
abbrev pub read_line_as : ℕ → List ℕ → Result Reply BadLine
read_line_as at cs = ok_or (from_line answer_kind cs) (bad_line at)

unfoldable pub answer_at : List ℕ → ℕ → Option (Result Reply BadLine)
unfolding bytes_of sum8 body_of answer_kind lowest
answer_at buffer at = cond (ltb at (length buffer)) (Some (read_line_as at (line_at buffer at))) None

-- Where it stands then: behind the newline that ends the line; at the end where none does; where it stood, at the end or past it.
unfoldable pub after_line : List ℕ → ℕ → ℕ
unfolding lowest
after_line buffer at =
    cond (ltb at (length buffer)) (cond (ltb (line_end buffer at) (length buffer)) (line_end buffer at + 1) (line_end buffer at)) at

-- What it gives until it says no more, from a position on; n bounds how often it is asked.
abbrev pub until_no_more : Option (Result Reply BadLine) → List (Result Reply BadLine) → List (Result Reply BadLine)
until_no_more (Some read) rest = read ∷ rest
until_no_more None rest = []

unfoldable pub reads_from : ℕ → List ℕ → ℕ → List (Result Reply BadLine)
unfolding answer_at after_line
reads_from zero buffer at = []
reads_from (suc n) buffer at = until_no_more (answer_at buffer at) (reads_from n buffer (after_line buffer at))

-- Lines, each as an answer or as 18 with its place, the first at a place and each behind the one before and its newline.
unfoldable pub reads_of : ℕ → List (List ℕ) → List (Result Reply BadLine)
unfolding bytes_of sum8 body_of answer_kind
reads_of at [] = []
reads_of at (l ∷ ls) = read_line_as at l ∷ reads_of (at + length l + 1) ls
