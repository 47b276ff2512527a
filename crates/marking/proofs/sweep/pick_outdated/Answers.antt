use Rattle.std.proofs.Common.{arith, ◌∙◌}
use lib.ListN.{length-set}
use Rattle.marking.specs.OnKeys.{key_outdated}
use Rattle.marking.proofs.OnKeys.{picks-turn}
use Rattle.marking.proofs.sweep.pick_outdated.Goals as goal

pub loop-i-preserved : goal.loop-i-preserved
loop-i-preserved c =
    let l = c.loop-i in
    (length-set l.picks l.i _ ∙ l.invariant.0, picks-turn (key_outdated c.args.gap) c.args.keys.now l.picks l.i _ (omega arith) c.is_outdated.ensures l.invariant.1)
