-- A call from the bytes of its line, and the answer as bytes.
-- Assumes nothing.
use Rattle.std.specs.Prelude.{ℕ, ◌≡◌, cond, ◌&&◌, List, eqb, length, Option, None}
use Rattle.line.specs.declared.{Call.Call, Reply.Reply}
use Rattle.line.specs.Answers.{reply_bytes}
use Rattle.line.specs.Calls.{call_from}
use Rattle.hex_digits.specs.Frame.{with_check}
use Rattle.running.specs.Slices.{Slices, sized, reply_to, Leaves}

-- The bytes of an answer, check byte last.
abbrev pub answer_length : ℕ
answer_length = 8

abbrev pub answer_bytes : Reply → List ℕ
answer_bytes r = with_check (reply_bytes r)

-- The line that is made: the call's bytes, and a bad one where there is no room for the answer.
abbrev pub line_in : List ℕ → List ℕ → Option Call
line_in call answer = cond (eqb (length answer) answer_length) (call_from call) None

-- The status, and the answer's bytes; with a wrong size nothing is written, the answer neither.
pub record Wired (r : ℕ) (call answer answer' : List ℕ) (before after : Slices) : Type 0 where
  pub gives : r ≡ (reply_to before (line_in call answer)).status
  pub writes : answer' ≡ cond (eqb (length answer) answer_length && sized before) (answer_bytes (reply_to before (call_from call))) answer
  pub leaves : Leaves (line_in call answer) before after
