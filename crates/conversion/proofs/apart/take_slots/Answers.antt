-- the slots below place i are taken. Assumes nothing.
use native.Mathlib.Omega.{arith}
use Rattle.conversion.proofs.Taken.{taking-turn, taking-end}
use Rattle.conversion.proofs.apart.take_slots.Goals as goal

pub take_slot-requires : goal.take_slot-requires
take_slot-requires c = c.loop-i.invariant.2.rows_long

pub loop-i-preserved : goal.loop-i-preserved
loop-i-preserved c =
    let l = c.loop-i in
    taking-turn _ l.invariant.1 l.invariant.2 (omega arith) l.invariant.3 c.take_slot.ensures

pub returns : goal.returns
returns c = let l = c.loop-i in taking-end l.invariant.1 l.invariant.2.slots_long l.invariant.3 (omega arith)
