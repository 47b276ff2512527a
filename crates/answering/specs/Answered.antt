-- A line on slices with the reply as one number.
-- Assumes nothing.
use Rattle.std.specs.Prelude.{ℕ, ◌+◌, ◌*◌, ◌^◌, ◌≡◌, Option}
use Rattle.line.specs.declared.{Call.Call, Reply.Reply}
use Rattle.running.specs.Slices.{Slices, reply_to, Leaves}

-- A reply as one number: the status in bits 0 to 7, the buffer number in bits 8 to 15, the value in bits 32 to 63.
abbrev pub answer_word : Reply → ℕ
answer_word r = r.value * 2 ^ 32 + r.buf * 256 + r.status

-- What a line answers, and what it leaves of the slices.
pub record OnSlices (r : ℕ) (line : Option Call) (before after : Slices) : Type 0 where
  pub answers : r ≡ answer_word (reply_to before line)
  pub leaves : Leaves line before after
