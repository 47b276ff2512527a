-- Each answer brings the reader closer to the end.
-- Assumes nothing.
use Rattle.std.proofs.Common.{◌≡◌, ℕ, ◌-◌, ◌+◌, ◌<◌, Bool, true, false, List, length, refl, ltb, cond, arith, ltb-true, ltb-false}
use Rattle.std.specs.Prelude.{Option, Some, None, Result}
use Rattle.std.specs.Iterator.{at_most, MakesProgress}
use borrow.Author.Tests.{lt-ltb}
use Rattle.buffer.specs.Buffer.{line_end, line_at}
use Rattle.line.specs.declared.Reply.{Reply}
use Rattle.reader.specs.declared.{BadLine.BadLine, AnswerReader.AnswerReader}
use Rattle.reader.specs.Reading.{read_line_as, answer_at, after_line}

left-after : (buffer : List ℕ) (at : ℕ) → at < length buffer → length buffer - after_line buffer at < length buffer - at
unfolding after_line
left-after buffer at h = rw (lt-ltb at (length buffer) h) (by (ltb (line_end buffer at) (length buffer)) refl)
  where
    by : (b : Bool) → ltb (line_end buffer at) (length buffer) ≡ b
        → length buffer - cond b (line_end buffer at + 1) (line_end buffer at) < length buffer - at
    by true e = omega arith
    by false e = let outside = ltb-false (line_end buffer at) (length buffer) e in omega arith

within : (buffer : List ℕ) (at : ℕ) {x : Result Reply BadLine} → Some x ≡ answer_at buffer at → at < length buffer
unfolding answer_at
within buffer at {x} e = by (ltb at (length buffer)) refl e
  where
    by : (b : Bool) → ltb at (length buffer) ≡ b → Some x ≡ cond b (Some (read_line_as at (line_at buffer at))) None → at < length buffer
    by true t e = ltb-true at (length buffer) t
    by false t e = absurd (let z : ◌≡◌ {A = ℕ} 0 1 = cc in omega arith)

-- What is left falls with each answer.
pub goes_on : (s t : AnswerReader) (read : Option (Result Reply BadLine)) → read ≡ answer_at s.lines.now s.at → t.lines ≡ s.lines
    → t.at ≡ after_line s.lines.now s.at → MakesProgress (λ _. Unit {0}) (λ r. at_most (length r.lines.now - r.at)) s read t
goes_on s t None e same moved = record { on = λ f. tt; keeps = tt; rests = λ f. tt }
goes_on s t (Some x) e same moved =
    record { on = λ f. (tt, tt, rw (same, moved) (left-after s.lines.now s.at (within s.lines.now s.at e))); keeps = tt; rests = λ f. tt }
