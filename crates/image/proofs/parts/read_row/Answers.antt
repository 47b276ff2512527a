use Rattle.std.proofs.Common.{rules, ◌+◌, ◌*◌}
use Rattle.seq.proofs.Made.{made}
use Rattle.image.proofs.parts.read_row.Goals as goal

pub returns : goal.returns
returns g c = made _ (λ k. g.T.Part.part_at c.args.image.now (c.args.at + g.T.Part.WIDTH * k)) _ g.row.N (λ i l y q called. search (rules, called)) c.from_fn.ensures.items
