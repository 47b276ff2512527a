-- `image_why::ask_image` meets its contract: what the entry point by value answers is shown. Assumes nothing.
use Rattle.std.proofs.Common.{Result}
use mathlib.Core.Path.{ap, ◌∙◌}
use Rattle.def.specs.declared.{EvcPm.EvcPm}
use Rattle.def.specs.declared.Refusal.{Refusal}
use Rattle.reasons.specs.declared.Reason.{Reason}
use Rattle.reasons.specs.Reasons.{why}
use Rattle.questions.specs.Asked.{shown_why}
use Rattle.image_why.proofs.ask_image.Goals as goal

pub returns : goal.returns
returns c =
    c.show_why.ensures
    ∙ ap (λ (a : Result Reason Refusal). shown_why a c.args.reason.now)
    (c.evc_picman_why.ensures ∙ ap (λ (pm : EvcPm). why pm c.args.call c.args.slot) c.read_pm.ensures)
