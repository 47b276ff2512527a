-- `reader::after_line` meets its contract. Assumes nothing.
use borrow.Author.Tests.{lt-ltb, le-ltb}
use Rattle.reader.specs.Reading.{after_line}
use Rattle.reader.proofs.after_line.Goals as goal

pub returns-then-lines-at : goal.returns-then-lines-at
unfolding after_line
returns-then-lines-at c = rw (le-ltb _ _ c.if-lines-at.true)

pub returns-then-end-lines : goal.returns-then-end-lines
unfolding after_line
returns-then-end-lines c = rw (lt-ltb _ _ c.if-lines-at.false, ← c.line_end-end.ensures, lt-ltb _ _ c.if-end-lines.true)

pub returns : goal.returns
unfolding after_line
returns c = rw (lt-ltb _ _ c.if-lines-at.false, ← c.line_end-end.ensures, le-ltb _ _ c.if-end-lines.false)
