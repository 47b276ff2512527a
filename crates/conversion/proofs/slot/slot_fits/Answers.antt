use Rattle.std.proofs.Common.{sym}
use mathlib.Core.Bool.{and-true}
use Rattle.conversion.proofs.KeyedLaws.{all-same}
use Rattle.conversion.proofs.slot.slot_fits.Goals as goal

pub returns-then-s : goal.returns-then-s
returns-then-s c = rw c.if-s.true

pub returns : goal.returns
returns c = rw (c.if-s.false, c.numbers_are_zero.ensures, ← all-same c.args.s.pic.list_poc) (sym (and-true _))
