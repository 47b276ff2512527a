use Rattle.std.proofs.Common.{◌-◌, ◌∙◌, ap, arith, length, set}
use lib.ListN.{length-set}
use Rattle.seq.specs.Lists.{move_to}
use Rattle.seq.proofs.Orders.{move-out}
use Rattle.store.proofs.moves.remove_key.Goals as goal

pub returns-clause-left : goal.returns-clause-left
returns-clause-left c =
    let a = c.args in
    let xs = a.keys.now in
    let l = length-set xs a.pos 0 in
    rw c.replace-key.ensures.after at c.move_last.ensures
    ∙ ap (λ j. move_to 0 a.pos j (set xs a.pos 0)) (omega arith)
    ∙ move-out 0 0 a.pos (length xs - 1) xs (omega (arith, c.requires)) (omega (arith, c.requires))
