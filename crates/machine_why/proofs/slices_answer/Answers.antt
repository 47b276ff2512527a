-- `machine_why::slices_answer` meets its contract: the keys tell whether the state is whole, and then the reason. Assumes nothing.
use mathlib.Core.Path.{sym, ◌∙◌}
use Rattle.questions.proofs.Fitting.{not-whole-why, whole-why}
use Rattle.machine_why.proofs.slices_answer.Goals as goal

pub returns-then-not-is_whole : goal.returns-then-not-is_whole
returns-then-not-is_whole c rows =
    not-whole-why c.args.keys.now rows c.args.call c.args.slot c.rest_of-rest.ensures
    (sym (c.is_whole.ensures rows) ∙ c.if-not-is_whole.true)

pub returns : goal.returns
returns c rows =
    c.why_on.ensures rows
    ∙ whole-why c.args.keys.now rows c.args.call c.args.slot c.rest_of-rest.ensures
    (sym (c.is_whole.ensures rows) ∙ c.if-not-is_whole.false)
