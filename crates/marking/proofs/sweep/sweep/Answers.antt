use Rattle.std.proofs.Common.{arith}
use Rattle.keys.specs.Keys.{key_unmarked}
use Rattle.marking.specs.OnKeys.{flagged}
use Rattle.seq.proofs.Partition.{parted-keep, parted-pick, parted-end, keep-room, pick-room}
use Rattle.marking.proofs.OnKeys.{starts}
use Rattle.marking.proofs.sweep.sweep.Goals as goal
use Rattle.marking.proofs.sweep.sweep.Goals.{then-picks-i, else-picks-i}

pub loop-i-init : goal.loop-i-init
loop-i-init c = starts c.args.picks.now c.args.keys.now c.args.next.now c.count_kept-first.result c.count_kept-first.ensures (omega arith) (omega arith)

pub bounds-next-first : goal.bounds-next-first
bounds-next-first c =
    let l = c.loop-i in
    let a = c.args in
    let r = pick-room (flagged a.picks.now) key_unmarked 0 a.keys.now l.next c.count_kept-first.result l.kept l.picked l.i (omega arith) l.invariant c.if-picks-i.true in
    omega (arith, r)

pub bounds-next-kept : goal.bounds-next-kept
bounds-next-kept c =
    let l = c.loop-i in
    let a = c.args in
    let r = keep-room (flagged a.picks.now) key_unmarked 0 a.keys.now l.next c.count_kept-first.result l.kept l.picked l.i (omega arith) l.invariant c.if-picks-i.false in
    omega (arith, r, l.invariant.back-left)

pub loop-i-preserved : goal.loop-i-preserved
loop-i-preserved c =
    let l = c.loop-i in
    let a = c.args in
    elim c.if-picks-i.branch [
      | then-picks-i w ↦
          rw (w.next-is, w.kept-is, w.picked-is, w.unmarked.ensures)
          (parted-pick (flagged a.picks.now) key_unmarked 0 a.keys.now l.next c.count_kept-first.result l.kept l.picked l.i (omega arith) l.invariant w.if-picks-i.true)
      | else-picks-i w ↦
          rw (w.next-is, w.kept-is, w.picked-is)
          (parted-keep (flagged a.picks.now) key_unmarked 0 a.keys.now l.next c.count_kept-first.result l.kept l.picked l.i (omega arith) l.invariant w.if-picks-i.false)
    ]

pub returns : goal.returns
returns c =
    let l = c.loop-i in
    let a = c.args in
    parted-end (flagged a.picks.now) key_unmarked 0 a.keys.now l.next c.count_kept-first.result l.kept l.picked l.i (omega arith) l.invariant
