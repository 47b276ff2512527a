-- Nothing in a buffer is passed over, and what the program writes of answers is read back.
-- Assumes nothing.
use Rattle.std.specs.Prelude.{ℕ, ◌+◌, ◌≤◌, ◌≡◌, length, drop, Some, None, Ok, Err}
use mathlib.Core.List.{List, [], ◌∷◌, ◌++◌, map, flat_map}
use Rattle.buffer.specs.Buffer.{newline, lines_from}
use Rattle.line.specs.declared.Reply.{Reply}
use Rattle.line.specs.Answers.{reply, answer_digits, answer_line}
use Rattle.line.specs.Claims.{ReplyFits}
use Rattle.reader.specs.Reading.{bad_line, answer_at, after_line, reads_from, reads_of}

-- Reading until there is no more gives exactly the lines of the buffer, in order, whatever its bytes. As many readings as the buffer has bytes
-- are enough. From another position on, the lines of what stands from there on: a line begins where the reader stands.
abbrev pub ReadsEveryLine : Type 0
ReadsEveryLine = (buffer : List ℕ) (n : ℕ) → length buffer ≤ n → reads_from n buffer 0 ≡ reads_of 0 (lines_from [] buffer)

abbrev pub ReadsFromPlace : Type 0
ReadsFromPlace =
    (buffer : List ℕ) (n at : ℕ) → at ≤ length buffer → length buffer ≤ at + n → reads_from n buffer at ≡ reads_of at (lines_from [] (drop at buffer))

-- The lines that the program writes of answers are read back as those answers, in order, and nothing else is.
unfoldable pub AllFit : List Reply → Type 0
AllFit [] = Unit {0}
AllFit (r ∷ rs) = ReplyFits r × AllFit rs

abbrev pub PrintedIsRead : Type 0
PrintedIsRead = (rs : List Reply) (n : ℕ) → AllFit rs → length (flat_map answer_line rs) ≤ n → reads_from n (flat_map answer_line rs) 0 ≡ map Ok rs

-- At the end or past it there is no more, and the reader stays.
pub record Stays (buffer : List ℕ) (at : ℕ) : Type 0 where
  pub no_more : answer_at buffer at ≡ None
  pub same_place : after_line buffer at ≡ at

abbrev pub StaysAtEnd : Type 0
StaysAtEnd = (buffer : List ℕ) (at : ℕ) → length buffer ≤ at → Stays buffer at

-- For example: the sixteen digits of an answer, 0100ff0000000000, are read as it, and with two more behind them, 00, they are 18.
abbrev pub longer_line : List ℕ
longer_line = answer_digits (reply 1 0 255 0) ++ (48 ∷ 48 ∷ [])

abbrev pub LongerIsBad : Type 0
LongerIsBad = (answer_at (answer_digits (reply 1 0 255 0)) 0 ≡ Some (Ok (reply 1 0 255 0))) × (answer_at longer_line 0 ≡ Some (Err (bad_line 0)))

-- For example: the line of that answer and an empty line behind it are the answer and 18 at place 17.
abbrev pub ThenEmptyLine : Type 0
ThenEmptyLine = reads_of 0 (lines_from [] (answer_line (reply 1 0 255 0) ++ (newline ∷ []))) ≡ Ok (reply 1 0 255 0) ∷ Err (bad_line 17) ∷ []
