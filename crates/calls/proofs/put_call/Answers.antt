use Rattle.machine.proofs.Running.{state-makes, put-on-whole}
use Rattle.calls.proofs.put_call.Goals as goal

pub returns : goal.returns
returns c =
    let a = c.args in
    state-makes a.keys.now a.rows.now a.s.now 3 (rw (← c.put_answer.ensures) c.reply_of.ensures) (put-on-whole _ _ a.call c.requires.whole_state) c.put-placed.ensures
