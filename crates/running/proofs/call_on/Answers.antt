-- `running::call_on` meets its contract: the scalars are read, the call made, and the scalars after it written unless it is turned down.
-- Assumes nothing.
use mathlib.Core.Path.{sym, ◌∙◌}
use Rattle.def.proofs.Refusals.{in_use, not-in-use}
use Rattle.running.proofs.Answering.{call-refused, call-made}
use Rattle.running.proofs.call_on.Goals as goal

pub returns-then-is_refused : goal.returns-then-is_refused
returns-then-is_refused c =
    call-refused _ _ c.scalars_at-scalars.ensures c.checked_call-reply.ensures
    (in_use c.checked_call-reply.result.status (sym c.is_refused.ensures ∙ c.if-is_refused.true))

pub store-requires : goal.store-requires
store-requires c =
    c.requires.1

pub returns : goal.returns
returns c =
    call-made _ _ c.scalars_at-scalars.ensures c.checked_call-reply.ensures
    (not-in-use c.checked_call-reply.result.status (sym c.is_refused.ensures ∙ c.if-is_refused.false))
    c.store.ensures.kept.0 c.store.ensures.kept.1
