-- The loop's invariant: the bytes of the first i parts are stored. Assumes nothing.
use Rattle.std.proofs.Common.{rules}
use Rattle.seq.proofs.Stores.{storing-none, storing-turn}
use Rattle.image.proofs.parts.write_row.Goals as goal

pub loop-i-init : goal.loop-i-init
loop-i-init g c = storing-none g.T.Part.part_bytes g.T.Part.WIDTH c.args.image.now c.args.at c.args.parts.now g.row.N

pub loop-i-preserved : goal.loop-i-preserved
loop-i-preserved g c =
    storing-turn g.T.Part.part_bytes g.T.Part.WIDTH c.args.image.now c.args.at c.args.parts.now g.row.N c.index-parts-i.result
    c.type_inv.parts c.loop-i-test.true c.loop-i.invariant
    (search rules)
