use Rattle.machine.proofs.Running.{state-makes, get-on-whole}
use Rattle.calls.proofs.get_call.Goals as goal

pub returns : goal.returns
returns c =
    let a = c.args in
    state-makes a.keys.now a.rows.now a.s.now 2 (rw (← c.get_answer.ensures) c.reply_of.ensures) (get-on-whole _ c.requires.whole_state) c.get-leased.ensures
