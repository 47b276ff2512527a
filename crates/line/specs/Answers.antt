-- Answer lines: an answer is the call byte, the status, the buffer number and four bytes.
-- Assumes nothing.
use Rattle.std.specs.Prelude.{ℕ, ◌+◌, ◌*◌, cond, List, [], ◌∷◌, ◌++◌, eqb, length, Option, Some, None, Result, Ok, Err}
use Rattle.def.specs.declared.{Answer.Answer, Refusal.Refusal}
use Rattle.def.specs.declared.Answer.TheVariants.{Done, Picture, NotYet, NoMore, Counts}
use Rattle.def.specs.Refusals.{refusal_number}
use Rattle.line.specs.declared.Reply.{Reply}
use Rattle.hex_digits.specs.Hex.{digits_of, word_bytes}
use Rattle.hex_digits.specs.Frame.{Kind, framed, byte_at, word_at}
pub use Rattle.line.specs.Lines.{newline}
pub use Rattle.def.specs.Word.{twos_complement}

-- Where there is no buffer number the line shows ff.
abbrev pub no_buffer : ℕ
no_buffer = 255

abbrev pub reply : ℕ → ℕ → ℕ → ℕ → Reply
reply call status buf value = record { call = call; status = status; buf = buf; value = value }

-- What a line shows of an answer: its status, which is 0, 64 for not yet, 65 for no more or the refusal's number, and a buffer number and a value
-- where the answer has them.
abbrev pub reply_of : ℕ → Result Answer Refusal → Reply
reply_of call (Ok Done) = reply call 0 no_buffer 0
reply_of call (Ok (Picture buf poc)) = reply call 0 buf poc
reply_of call (Ok NotYet) = reply call 64 no_buffer 0
reply_of call (Ok NoMore) = reply call 65 no_buffer 0
reply_of call (Ok (Counts forward backward)) = reply call 0 no_buffer (forward * 256 + backward)
reply_of call (Err why) = reply call (refusal_number why) no_buffer 0

-- Every bad line answers with call byte 00 and status 18.
abbrev pub bad_line_reply : Reply
bad_line_reply = reply 0 18 no_buffer 0

-- The body of an answer.
abbrev pub reply_bytes : Reply → List ℕ
reply_bytes r = r.call ∷ r.status ∷ r.buf ∷ word_bytes r.value

-- Any body of seven bytes is an answer.
abbrev pub reply_in : List ℕ → Option Reply
reply_in b = cond (eqb (length b) 7) (Some (reply (byte_at b 0) (byte_at b 1) (byte_at b 2) (word_at b 3 4 5 6))) None

unfoldable pub answer_kind : Kind Reply
answer_kind = record { meaning = reply_in; body = reply_bytes }

-- The sixteen digits of an answer, and its line with the newline.
unfoldable pub answer_digits : Reply → List ℕ
unfolding digits_of
answer_digits r = framed (reply_bytes r)

unfoldable pub answer_line : Reply → List ℕ
unfolding answer_digits
answer_line r = answer_digits r ++ (newline ∷ [])
