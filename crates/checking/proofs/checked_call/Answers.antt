-- `checking::checked_call` meets its contract. Assumes nothing.
use Rattle.std.specs.Prelude.{Err}
use mathlib.Core.Path.{sym, ap, ◌∙◌}
use Prim.Native.Nat.{ℕ}
use Rattle.def.specs.declared.Refusal.TheVariants.{StateNotWhole}
use Rattle.line.specs.Answers.{reply_of}
use Rattle.machine.proofs.Running.{ready-room, refused-makes}
use Rattle.checking.proofs.checked_call.Goals as goal

pub make_call-requires : goal.make_call-requires
make_call-requires c =
    ready-room c.args.call c.requires (sym (c.is_ready.ensures c.args.rows.now) ∙ c.if-is_ready.true)

pub returns : goal.returns
returns c =
    refused-makes c.args.s.now c.requires c.args.call (sym (c.is_ready.ensures c.args.rows.now) ∙ c.if-is_ready.false) _
    (c.reply_of.ensures ∙ ap (λ (n : ℕ). reply_of n (Err StateNotWhole)) c.call_byte.ensures)
