-- What is written grows, write by write.
use Rattle.std.proofs.Common.{arith, length-take, length-drop}
use Rattle.conversation.proofs.Writing.{appends-on, appends-kept, fronted}
use Rattle.conversation.proofs.pouring.write_whole.Goals as goal
use Rattle.conversation.proofs.pouring.write_whole.Goals.{in-Ok, in-Err+else-ne}

pub returns-in-Ok-eq0-clause-err : goal.returns-in-Ok-eq0-clause-err
returns-in-Ok-eq0-clause-err g c =
    fronted _ _ _ _ (appends-on _ _ _ c.loop.at c.in-Ok-eq0.field-0 _ c.loop.invariant.appended c.in-Ok-eq0.ensures.bytes)

pub returns-then-ne-clause-err : goal.returns-then-ne-clause-err
returns-then-ne-clause-err g c = fronted _ _ _ _ (appends-kept _ _ _ _ c.loop.invariant.appended c.in-Err.ensures.bytes)

pub loop-preserved : goal.loop-preserved
loop-preserved g c =
    elim c.match-write.branch [
      | in-Ok w ↦
          rw w.at-is
          (record {
            within = let b = simp (length-take, length-drop) at w.in-Ok.ensures.bound in let i = c.loop.invariant.within in omega arith;
            appended = appends-on _ _ _ _ _ _ c.loop.invariant.appended w.in-Ok.ensures.bytes;
          })
      | in-Err+else-ne w ↦
          rw w.at-is (record { within = c.loop.invariant.within; appended = appends-kept _ _ _ _ c.loop.invariant.appended w.in-Err.ensures.bytes })
    ]

pub returns-clause-err : goal.returns-clause-err
returns-clause-err g c = fronted _ _ _ _ c.loop.invariant.appended
