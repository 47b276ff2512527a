use Rattle.machine.proofs.Running.{state-makes, init-on-whole}
use Rattle.calls.proofs.init_call.Goals as goal

pub returns : goal.returns
returns c =
    let a = c.args in
    let runs = c.requires in
    state-makes a.keys.now a.rows.now a.s.now 1 (rw (← c.init_answer.ensures) c.reply_of.ensures) (init-on-whole _ a.max_pb_size a.max_num_ref_pics runs.whole_state)
    (c.init-done.ensures a.keys.now a.rows.now runs.sized)
