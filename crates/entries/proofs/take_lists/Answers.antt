-- `entries::take_lists` meets its contract: the entries below place j are taken. Assumes nothing.
use native.Mathlib.Omega.{arith}
use borrow.Author.Rules.{rules}
use Rattle.entries.proofs.EntryLaws.{take-turn, take-end}
use Rattle.entries.proofs.take_lists.Goals as goal

pub loop-j-preserved : goal.loop-j-preserved
loop-j-preserved c =
    let s = c.take_entry.ensures in
    (s.rows_long, take-turn _ (search rules) _ c.loop-j.rows _ c.loop-j.j (omega arith) c.loop-j.invariant.1 s)

pub returns : goal.returns
returns c = take-end _ (search rules) c.loop-j.rows c.loop-j.j c.loop-j.invariant.0 (omega arith) c.loop-j.invariant.1
