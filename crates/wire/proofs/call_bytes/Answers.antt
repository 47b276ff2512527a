-- `wire::call_bytes` meets its contract: both sizes are tested, then the line is made and its answer written. Assumes nothing.
use mathlib.Core.Path.{sym, ◌∙◌}
use Rattle.running.proofs.Answering.{by-line}
use Rattle.wire.proofs.Wiring.{no_room, wrong-sizes, line_made}
use Rattle.wire.proofs.call_bytes.Goals as goal

pub returns-then-answer-ne-ANSWER_LENGTH : goal.returns-then-answer-ne-ANSWER_LENGTH
returns-then-answer-ne-ANSWER_LENGTH c = no_room _ _ _ c.if-answer-ne-ANSWER_LENGTH.true

pub returns-then-not-is_sized : goal.returns-then-not-is_sized
returns-then-not-is_sized c =
    wrong-sizes _ _ _ c.if-answer-ne-ANSWER_LENGTH.false (sym c.is_sized.ensures ∙ c.if-not-is_sized.true)

pub returns : goal.returns
returns c =
    line_made _ _ _ c.if-answer-ne-ANSWER_LENGTH.false (sym c.is_sized.ensures ∙ c.if-not-is_sized.false)
    (by-line (sym c.read_call.ensures) c.reply_on-reply.ensures) c.write_answer.ensures
