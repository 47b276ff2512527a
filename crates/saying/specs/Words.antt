-- An answer line in words: `put: buffer 3, number 12`, `out: not yet`, `lists: turned down, 9, no references`.
-- Assumes nothing.
use Rattle.std.specs.Prelude.{ℕ, cond, not, List, [], ◌∷◌, ◌++◌, ltb, eqb, get_or, Option, Some, None}
use Rattle.phrases.specs.Phrases.{chars, decimal}
use Rattle.hex_digits.specs.Hex.{bytes_of, sum8}
use Rattle.hex_digits.specs.Frame.{body_of, from_line}
use Rattle.line.specs.declared.Reply.{Reply}
use Rattle.line.specs.Answers.{answer_kind, no_buffer}
use Rattle.wording.specs.Words.{status_word}
use Rattle.showing.specs.Shown.{picture_words, count_words, signed_words}

-- The calls by their byte; 0 is a line that was no call, and another byte is shown.
abbrev pub names : List (List ℕ)
names = chars "line" ∷ chars "init" ∷ chars "get" ∷ chars "put" ∷ chars "out" ∷ chars "lists" ∷ chars "derive" ∷ []

unfoldable pub call_name : ℕ → List ℕ
call_name call = cond (ltb call 7) (get_or names call []) (chars "call " ++ decimal call)

-- What a refusal looks like.
abbrev pub turned_down : ℕ → List ℕ
turned_down status = chars "turned down, " ++ (decimal status ++ (chars ", " ++ status_word status))

-- What was done: a picture where the answer names a buffer, else what its call gives.
abbrev pub done_words : Reply → List ℕ
done_words r =
    cond (not (eqb r.buf no_buffer)) (picture_words r.buf r.value)
    (cond (eqb r.call 5) (count_words r.value) (cond (eqb r.call 6) (signed_words r.value) (chars "done")))

unfoldable pub status_words : Reply → List ℕ
status_words r =
    cond (eqb r.status 0) (done_words r)
    (cond (eqb r.status 64) (chars "not yet") (cond (eqb r.status 65) (chars "no more") (turned_down r.status)))

unfoldable pub answer_words : Reply → List ℕ
unfolding status_word call_name
answer_words r = call_name r.call ++ (chars ": " ++ (status_words r ++ chars "\n"))

-- A line that is no answer, with its number.
unfoldable pub bad_line_words : ℕ → List ℕ
bad_line_words number = chars "bad line " ++ (decimal number ++ chars ": no answer\n")

-- What the program writes for a line, the characters before its newline.
abbrev pub said_as : ℕ → Option Reply → List ℕ
said_as number (Some r) = answer_words r
said_as number None = bad_line_words number

unfoldable pub said_line : ℕ → List ℕ → List ℕ
unfolding bytes_of sum8 body_of answer_kind answer_words bad_line_words
said_line number line = said_as number (from_line answer_kind line)
