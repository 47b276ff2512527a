use Rattle.std.proofs.Common.{◌≡◌, ap, ◌∙◌, arith}
use Rattle.seq.specs.Lists.{count_if}
use Rattle.keys.specs.Keys.{key_marked}
use Rattle.marking.specs.OnKeys.{key_sweep}
use Rattle.marking.proofs.OnKeys.{few_marked, many-marked}
use Rattle.store.proofs.Finding.{count-by}
use Rattle.marking.proofs.limit.pic_marking_no_rpl.Goals as goal

pub returns-then-count-le-MOST_MARKED : goal.returns-then-count-le-MOST_MARKED
returns-then-count-le-MOST_MARKED c =
    let k : c.count_marked-count.result ≡ count_if key_marked (key_sweep c.pick_outdated.new.picks c.args.keys.now) =
    c.count_marked-count.ensures ∙ count-by key_marked c.sweep.new.next ∙ ap (count_if key_marked) c.sweep.ensures in
    rw (c.sweep.ensures, k)
    (few_marked c.args.ref_pic_gap_length c.args.keys.now c.pick_outdated.new.picks c.requires c.pick_outdated.ensures (omega (arith, k)))

pub returns : goal.returns
returns c =
    let k : c.count_marked-count.result ≡ count_if key_marked (key_sweep c.pick_outdated.new.picks c.args.keys.now) =
    c.count_marked-count.ensures ∙ count-by key_marked c.sweep.new.next ∙ ap (count_if key_marked) c.sweep.ensures in
    many-marked c.args.ref_pic_gap_length c.args.keys.now c.pick_outdated.new.picks c.requires c.pick_outdated.ensures c.unmark_first.new.keys
    c.last_walk.new.keys
    c.unmark_first.new.notes
    (omega (arith, k))
    (rw (k, c.sweep.ensures) at c.unmark_first.ensures)
    c.last_walk.ensures
