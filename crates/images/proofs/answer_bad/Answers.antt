-- `images::answer_bad` meets its contract. Assumes nothing.
use mathlib.Core.Path.{refl, ap, ◌∙◌}
use Rattle.wire.specs.Wire.{answer_bytes}
use Rattle.images.proofs.answer_bad.Goals as goal

pub returns : goal.returns
returns c =
    (refl, c.write_answer.ensures ∙ ap answer_bytes c.bad_line_reply.ensures)
