use Rattle.std.proofs.Common.{◌≡◌, sym, ap, ◌∙◌, arith, length, map, ◌-◌}
use Rattle.keys.specs.Keys.{slot_at}
use Rattle.marking.specs.Marking.{last_slot}
use Rattle.marking.proofs.Steps.{walk_end}
use Rattle.marking.proofs.OnKeys.{walk-yes, walk_no, moved-long}
use Rattle.seq.specs.Lists.{move_to}
use Rattle.marking.proofs.limit.last_walk.Goals as goal
use Rattle.marking.proofs.limit.last_walk.Goals.{then-is_noted, else-is_noted}

pub loop-i-preserved : goal.loop-i-preserved
loop-i-preserved c =
    let l = c.loop-i in
    elim c.if-is_noted.branch [
      | then-is_noted w ↦
          let last : length l.keys - 1 ≡ last_slot = omega arith in
          let moved = w.move_last.ensures ∙ ap (λ j. move_to 0 l.i j l.keys) last in (
            rw (w.keys-is, moved) (moved-long l.i l.keys (omega arith) l.invariant.0),
            λ rows. rw (w.keys-is, moved) (walk-yes rows c.args.notes.now l.keys l.i (omega arith) l.invariant.0 (omega arith) w.if-is_noted.true ∙ l.invariant.1 rows),
          )
      | else-is_noted w ↦ (
        rw w.keys-is l.invariant.0,
        λ rows. rw w.keys-is (walk_no rows c.args.notes.now l.keys l.i (omega arith) l.invariant.0 (omega arith) w.if-is_noted.false ∙ l.invariant.1 rows),
      )
    ]

pub returns : goal.returns
returns c =
    let l = c.loop-i in
    record {
      walks_slots = λ rows. sym (walk_end c.args.notes.now l.i (map (slot_at rows) l.keys) (omega arith)) ∙ l.invariant.1 rows;
      walks_long = l.invariant.0;
    }
