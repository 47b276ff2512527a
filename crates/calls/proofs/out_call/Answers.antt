use Rattle.picman.proofs.OutOnKeys.{numbers_fit}
use Rattle.machine.proofs.Running.{state-makes, out-on-whole}
use Rattle.calls.proofs.out_call.Goals as goal

pub out-handed-requires : goal.out-handed-requires
out-handed-requires c =
    (c.requires.sized.slots_long, numbers_fit c.args.keys.now c.args.rows.now c.args.s.now.rest c.requires.sized.slots_long c.requires.whole_state)

pub returns : goal.returns
returns c =
    let a = c.args in
    state-makes a.keys.now a.rows.now a.s.now 4 (rw (← c.out_answer.ensures) c.reply_of.ensures) (out-on-whole _ c.requires.whole_state)
    (c.out-handed.ensures a.rows.now c.requires.sized.rows_long)
