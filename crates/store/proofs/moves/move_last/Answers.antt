-- The loop holds the moved key in hand: put down at place i and moved on from there, it gives what the whole move gives from the start.
use mathlib.Core.Path.{◌≡◌, sym, ◌∙◌}
use Prim.Native.Nat.{◌-◌, ◌<◌}
use native.Mathlib.Numerals.{add-one}
use native.Mathlib.Omega.{arith}
use lib.ListN.{length, get_or, set, length-set}
use Rattle.seq.proofs.Orders.{move-self, move_step}
use Rattle.store.proofs.moves.move_last.Goals as goal

pub loop-i-preserved : goal.loop-i-preserved
loop-i-preserved c =
    let l = c.loop-i in
    let keys = c.args.keys.now in
    (omega (arith, c.loop-i-test.true), rw add-one (move_step 0 (get_or keys c.args.pos 0) l.i (length keys - 1) l.keys (omega arith) (omega (arith, l.auto.keys)) ∙ l.invariant.1))

pub returns : goal.returns
returns c =
    let l = c.loop-i in
    let keys = c.args.keys.now in
    let last = length keys - 1 in
    let e : l.i ≡ last = omega arith in
    let k : last < length (set l.keys last (get_or keys c.args.pos 0)) = rw length-set (omega (arith, l.auto.keys, c.requires)) in
    sym (move-self 0 last _ k) ∙ (rw e at l.invariant.1)
