-- `image_why::why_of_image` meets its contract: each way out knows which test failed, or what is asked. Assumes nothing.
use mathlib.Core.Path.{sym, ◌∙◌}
use Rattle.line.specs.Calls.{call_from}
use Rattle.image.specs.Image.{pm_of}
use Rattle.image.proofs.BytesKept.{image-long}
use Rattle.questions.specs.Asked.{why_of_image}
use Rattle.questions.proofs.Fitting.{no-fit, no_room, all-fits}
use Rattle.image_why.proofs.why_of_image.Goals as goal

pub returns-then-not-is_image : goal.returns-then-not-is_image
unfolding why_of_image
returns-then-not-is_image c =
    let a = c.args in
    no-fit _ (pm_of a.image.now) (call_from a.call.now) a.slot a.reason.now (sym c.is_image.ensures ∙ c.if-not-is_image.true)

pub returns-then-reason-ne-REASON_LENGTH : goal.returns-then-reason-ne-REASON_LENGTH
unfolding why_of_image
returns-then-reason-ne-REASON_LENGTH c =
    let a = c.args in
    no_room _ (pm_of a.image.now) (call_from a.call.now) a.slot a.reason.now (sym c.is_image.ensures ∙ c.if-not-is_image.false)
    c.if-reason-ne-REASON_LENGTH.true

pub ask_image-requires : goal.ask_image-requires
ask_image-requires c = (image-long _ (sym c.is_image.ensures ∙ c.if-not-is_image.false), c.if-reason-ne-REASON_LENGTH.false)

pub returns-in-Some : goal.returns-in-Some
unfolding why_of_image
returns-in-Some c =
    let a = c.args in
    c.ask_image.ensures
    ∙ all-fits _ (pm_of a.image.now) (call_from a.call.now) a.slot a.reason.now (sym c.is_image.ensures ∙ c.if-not-is_image.false)
    c.if-reason-ne-REASON_LENGTH.false (sym c.question_in.ensures ∙ c.in-Some.is)

pub returns-in-None : goal.returns-in-None
unfolding why_of_image
returns-in-None c =
    let a = c.args in
    all-fits _ (pm_of a.image.now) (call_from a.call.now) a.slot a.reason.now (sym c.is_image.ensures ∙ c.if-not-is_image.false)
    c.if-reason-ne-REASON_LENGTH.false (sym c.question_in.ensures ∙ c.in-None.is)
