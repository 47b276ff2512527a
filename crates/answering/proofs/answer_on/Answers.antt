-- `answering::answer_on` meets its contract. Assumes nothing.
use mathlib.Core.Path.{ap, ◌∙◌}
use Rattle.answering.specs.Answered.{answer_word}
use Rattle.answering.proofs.answer_on.Goals as goal

pub returns : goal.returns
returns c =
    record {
      answers = c.answer_word.ensures ∙ ap answer_word c.reply_on.ensures.0;
      leaves = c.reply_on.ensures.1;
    }
