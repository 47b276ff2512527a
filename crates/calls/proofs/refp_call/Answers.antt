-- `calls::refp_call` meets its contract. Assumes nothing.
use mathlib.Core.Path.{refl}
use Rattle.machine.proofs.Running.{lists-makes}
use Rattle.refp.proofs.ListLaws.{on-whole}
use Rattle.calls.proofs.refp_call.Goals as goal

pub returns : goal.returns
returns c =
    lists-makes c.args.keys.now c.args.rows.now c.args.s.now 5 refl (rw c.lists_answer.ensures at c.reply_of.ensures)
    (on-whole _ _ c.args.call c.requires.whole_state) c.refp_init-given.ensures
