-- `stepping::step` meets its contract: by what became of the call. Assumes nothing.
use mathlib.Core.Path.{sym, ap, ◌∙◌}
use lib.ListN.{length}
use Rattle.def.proofs.Refusals.{in_use, not-in-use}
use Rattle.stepping.proofs.Stepping.{call-came, turned_down, derived, runs, accepted-is}
use Rattle.stepping.proofs.step.Goals as goal

pub returns-then-is_refused : goal.returns-then-is_refused
returns-then-is_refused c =
    let long = ap length c.store.ensures.written in
    let came = call-came c.take_machine-before.ensures.sized long c.store.ensures.kept c.reply_on-reply.ensures in
    turned_down c.take_machine-before.ensures c.args.call came (in_use _ (sym c.is_refused.ensures ∙ c.if-is_refused.true))

pub put_machine-machine-requires : goal.put_machine-machine-requires
put_machine-machine-requires c =
    let long = ap length c.store.ensures.written in
    let came = call-came c.take_machine-before.ensures.sized long c.store.ensures.kept c.reply_on-reply.ensures in
    rw c.scalars_at-scalars.ensures
    (runs c.take_machine-before.ensures c.args.call came (sym c.reads_state.ensures ∙ c.if-reads_state.true)
    (not-in-use _ (sym c.is_refused.ensures ∙ c.if-is_refused.false)))

pub returns-then-reads_state : goal.returns-then-reads_state
returns-then-reads_state c =
    let long = ap length c.store.ensures.written in
    let came = call-came c.take_machine-before.ensures.sized long c.store.ensures.kept c.reply_on-reply.ensures in
    rw (c.put_machine-machine.ensures, c.scalars_at-scalars.ensures)
    (accepted-is c.take_machine-before.ensures c.args.call came (sym c.reads_state.ensures ∙ c.if-reads_state.true)
    (not-in-use _ (sym c.is_refused.ensures ∙ c.if-is_refused.false)))

pub returns : goal.returns
returns c =
    let long = ap length c.store.ensures.written in
    let came = call-came c.take_machine-before.ensures.sized long c.store.ensures.kept c.reply_on-reply.ensures in
    rw c.scalars_at-scalars.ensures
    (derived c.take_machine-before.ensures c.args.call came (sym c.reads_state.ensures ∙ c.if-reads_state.false))
