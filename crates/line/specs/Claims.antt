-- Calls and answers are faithful kinds of line: what is written is read back, a record has one line among all lines, and two records
-- never share one.
-- Assumes nothing.
use Rattle.std.specs.Prelude.{ℕ, ◌^◌, ◌<◌, ◌≤◌}
use Rattle.hex_digits.specs.Claims.{Faithful}
use Rattle.line.specs.declared.Call.{Call}
use Rattle.line.specs.declared.Call.TheVariants.{Init, GetEmptyPic, PutPic, OutPic, RefpInit, PocDerivation}
use Rattle.line.specs.declared.Reply.{Reply}
use Rattle.line.specs.Calls.{call_kind}
use Rattle.line.specs.Answers.{answer_kind}

-- Fields that fit their bytes, and a put's flags.
abbrev pub Byte : ℕ → Type 0
Byte n = n < 256

abbrev pub Word : ℕ → Type 0
Word n = n < 2 ^ 32

unfoldable pub CallFits : Call → Type 0
CallFits (Init size refs) = Byte size × Byte refs
CallFits GetEmptyPic = Unit {0}
CallFits (PutPic flags poc layer gap) = (flags ≤ 15) × Word poc × Byte layer × Word gap
CallFits OutPic = Unit {0}
CallFits (RefpInit slice poc layer intra limit) = Byte slice × Word poc × Byte layer × Word intra × Byte limit
CallFits (PocDerivation length layer) = Byte length × Byte layer

pub record ReplyFits (r : Reply) : Type 0 where
  pub call : Byte r.call
  pub status : Byte r.status
  pub buf : Byte r.buf
  pub value : Word r.value

abbrev pub CallsFaithful : Type 0
CallsFaithful = Faithful call_kind CallFits

abbrev pub AnswersFaithful : Type 0
AnswersFaithful = Faithful answer_kind ReplyFits
