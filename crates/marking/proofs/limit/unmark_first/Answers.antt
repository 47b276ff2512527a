use Rattle.std.proofs.Common.{◌≡◌, ◌<◌, sym, ◌∙◌, arith, map, get_or, [], List, ℕ}
use borrow.Author.Tests.{ltb-true, lt-ltb, le-ltb}
use mathlib.Core.Bool.{◌&&◌}
use lib.Dec.{ltb}
use lib.ListN.{length-map}
use Rattle.seq.proofs.Tests.{and_left, and_right}
use Rattle.keys.specs.Keys.{key_marked, slot_at}
use Rattle.marking.proofs.Steps.{noted-end}
use Rattle.marking.proofs.OnKeys.{key-yes, key-no}
use Rattle.marking.proofs.limit.unmark_first.Goals as goal
use Rattle.marking.proofs.limit.unmark_first.Goals.{then-is_first, else-is_first, then-left-gt0, else-left-gt0}

first_is : (c : goal.Joined-is_first) → c.if-left-gt0.is_first ≡ (ltb 0 c.loop-i.left && key_marked (get_or c.loop-i.keys c.loop-i.i 0))
first_is c =
    elim c.if-left-gt0.branch [
      | then-left-gt0 w ↦ rw (lt-ltb 0 c.loop-i.left w.if-left-gt0.true) (w.is_first-is ∙ w.is_marked-is_first.ensures)
      | else-left-gt0 w ↦ rw (le-ltb 0 c.loop-i.left w.if-left-gt0.false) (w.is_first-is ∙ le-ltb 0 c.loop-i.left w.if-left-gt0.false)
    ]

pub loop-i-preserved : goal.loop-i-preserved
loop-i-preserved c =
    let l = c.loop-i in
    elim c.if-is_first.branch [
      | then-is_first w ↦
          let e = sym (first_is c) ∙ w.if-is_first.true in
          let some : 0 < l.left = ltb-true 0 l.left (and_left (ltb 0 l.left) _ e) in (
            omega arith,
            λ rows.
                rw (w.keys-is, w.left-is, w.if-is_first.true, w.unmarked.ensures)
                (key-yes rows c.args.n c.args.keys.now l.keys l.notes l.left l.i (omega arith) c.told-keys l.invariant.0 (l.invariant.1 rows)
                (and_right (ltb 0 l.left) _ e)
                some),
          )
      | else-is_first w ↦ (
        omega arith,
        λ rows.
            rw (w.keys-is, w.left-is, w.if-is_first.false)
            (key-no rows c.args.n c.args.keys.now l.keys l.notes l.left l.i (omega arith) c.told-keys l.invariant.0 (l.invariant.1 rows)
            (sym (first_is c) ∙ w.if-is_first.false)),
      )
    ]

pub returns : goal.returns
returns c =
    let l = c.loop-i in
    let ends = λ (rows : List ℕ).
    noted-end c.args.n (map (slot_at rows) c.args.keys.now) (map (slot_at rows) l.keys) l.notes l.left l.i
    (omega (arith, length-map c.args.keys.now (slot_at rows)))
    (l.invariant.1 rows) in
    record {
      unmarks_slots = λ rows. (ends rows).0;
      notes_slots = λ rows. (ends rows).1;
      unmarks_long = l.invariant.0;
      notes_long = (l.invariant.1 []).notes-size ∙ length-map c.args.keys.now (slot_at []) ∙ c.told-keys;
    }
