-- What is kept of the line.
use Rattle.std.proofs.Common.{arith}
use Rattle.telling.proofs.Bytes.{keep-more, keep-full}
use Rattle.telling.proofs.LineTeller.keep.Goals as goal

pub returns-then-len-lt-KEPT : goal.returns-then-len-lt-KEPT
returns-then-len-lt-KEPT g c =
    rw (← c.self.view_is, c.push.ensures.items) (keep-more c.self.inside.held.items c.args.c c.self.inside.number _ (omega arith))

pub returns-else-len-lt-KEPT : goal.returns-else-len-lt-KEPT
returns-else-len-lt-KEPT g c =
    rw (← c.self.view_is) (keep-full c.self.inside.held.items c.args.c c.self.inside.number _ (omega arith))
