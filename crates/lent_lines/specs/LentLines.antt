-- `read_record` and `write_line`, and so `picman_read_answer` and `picman_write_call` of the library: what they give, and the lent buffer as they
-- leave it.
-- Assumes nothing.
use Rattle.std.specs.Prelude.{ℕ, ◌+◌, ◌*◌, ◌/◌, ◌%◌, cond, List, [], ◌∷◌, ◌++◌, eqb, length, Option, Some, None, Result, Ok, Err}
use Rattle.def.specs.declared.Refusal.{Refusal}
use Rattle.def.specs.Refusals.{refusal_number}
use Rattle.line.specs.declared.Reply.{Reply}
use Rattle.line.specs.Answers.{reply, reply_bytes}
use Rattle.reader.specs.declared.BadLine.{BadLine}
use Rattle.reader.specs.Reading.{answer_at, after_line}
use Rattle.writer.specs.Writing.{written}

pub record LentOut : Type 0 where
  pub given : ℕ
  pub buffer : List ℕ

abbrev pub lent_out : ℕ → List ℕ → LentOut
lent_out n buffer = record { given = n; buffer = buffer }

-- A place in eight bytes, the highest first.
abbrev pub place_bytes : ℕ → List ℕ
place_bytes n =
    (n / 72057594037927936 % 256) ∷ (n / 281474976710656 % 256) ∷ (n / 1099511627776 % 256) ∷ (n / 4294967296 % 256)
    ∷ (n / 16777216 % 256) ∷ (n / 65536 % 256) ∷ (n / 256 % 256) ∷ (n % 256) ∷ []

abbrev pub record_length : ℕ
record_length = 15

-- Seven field bytes, and then a place.
abbrev pub place_record : Reply → ℕ → List ℕ
place_record r next = reply_bytes r ++ place_bytes next

-- Where there is no answer the field bytes are zero.
abbrev pub no_reply : Reply
no_reply = reply 0 0 0 0

abbrev pub record_of : Option (Result Reply BadLine) → ℕ → List ℕ
record_of (Some (Ok r)) next = place_record r next
record_of (Some (Err bad)) next = place_record no_reply next
record_of None next = place_record no_reply next

-- 0, 18 for a line that is no answer, 41 hex for no more.
abbrev pub read_status : Option (Result Reply BadLine) → ℕ
read_status (Some (Ok r)) = 0
read_status (Some (Err bad)) = refusal_number Refusal.BadLine
read_status None = 65

unfoldable pub read_out : List ℕ → ℕ → List ℕ → LentOut
unfolding answer_at after_line
read_out lines at record_bytes =
    cond (eqb (length record_bytes) record_length)
    (lent_out (read_status (answer_at lines at)) (record_of (answer_at lines at) (after_line lines at)))
    (lent_out (refusal_number Refusal.BadLine) record_bytes)

-- 0, or the refusal.
abbrev pub written_status : Result ℕ Refusal → ℕ
written_status (Ok n) = 0
written_status (Err why) = refusal_number why

-- How long the line is, its newline counted; 0 under a refusal.
abbrev pub written_length : Result ℕ Refusal → ℕ
written_length (Ok n) = n
written_length (Err why) = 0

-- Both as one number: the status in bits 0 to 7, the length in the bits above.
abbrev pub written_word : Result ℕ Refusal → ℕ
written_word w = written_length w * 256 + written_status w

unfoldable pub wrote_out : List ℕ → List ℕ → LentOut
unfolding written
wrote_out fields target = lent_out (written_word (written fields target).given) (written fields target).target
