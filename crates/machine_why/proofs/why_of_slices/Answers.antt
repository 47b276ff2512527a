-- `machine_why::why_of_slices` meets its contract: each way out knows which test failed, or what is asked. Assumes nothing.
use mathlib.Core.Path.{sym, ◌∙◌}
use Rattle.line.specs.Calls.{call_from}
use Rattle.machine.specs.Lent.{slices, machine_at}
use Rattle.questions.specs.Asked.{why_of_slices}
use Rattle.questions.proofs.Fitting.{no-fit, no_room, all-fits}
use Rattle.sizing.proofs.Sized.{sized-long}
use Rattle.machine_why.proofs.why_of_slices.Goals as goal

pub returns-then-not-is_sized : goal.returns-then-not-is_sized
unfolding why_of_slices
returns-then-not-is_sized c =
    let a = c.args in
    no-fit _ (machine_at (slices a.keys.now a.rows.now a.registers.now)).pm (call_from a.call.now) a.slot a.reason.now
    (sym c.is_sized.ensures ∙ c.if-not-is_sized.true)

pub returns-then-reason-ne-REASON_LENGTH : goal.returns-then-reason-ne-REASON_LENGTH
unfolding why_of_slices
returns-then-reason-ne-REASON_LENGTH c =
    let a = c.args in
    no_room _ (machine_at (slices a.keys.now a.rows.now a.registers.now)).pm (call_from a.call.now) a.slot a.reason.now
    (sym c.is_sized.ensures ∙ c.if-not-is_sized.false) c.if-reason-ne-REASON_LENGTH.true

pub ask_slices-requires : goal.ask_slices-requires
ask_slices-requires c =
    let a = c.args in
    let long = sized-long (slices a.keys.now a.rows.now a.registers.now) (sym c.is_sized.ensures ∙ c.if-not-is_sized.false) in
    (long.0.slots_long, long.1, c.if-reason-ne-REASON_LENGTH.false)

pub returns-in-Some : goal.returns-in-Some
unfolding why_of_slices
returns-in-Some c =
    let a = c.args in
    c.ask_slices.ensures a.rows.now
    ∙ all-fits _ (machine_at (slices a.keys.now a.rows.now a.registers.now)).pm (call_from a.call.now) a.slot a.reason.now
    (sym c.is_sized.ensures ∙ c.if-not-is_sized.false) c.if-reason-ne-REASON_LENGTH.false
    (sym c.question_in.ensures ∙ c.in-Some.is)

pub returns-in-None : goal.returns-in-None
unfolding why_of_slices
returns-in-None c =
    let a = c.args in
    all-fits _ (machine_at (slices a.keys.now a.rows.now a.registers.now)).pm (call_from a.call.now) a.slot a.reason.now
    (sym c.is_sized.ensures ∙ c.if-not-is_sized.false) c.if-reason-ne-REASON_LENGTH.false
    (sym c.question_in.ensures ∙ c.in-None.is)
