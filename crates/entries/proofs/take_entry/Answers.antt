-- `entries::take_entry` meets its contract: flag and buffer number, number and row are the entry's. Assumes nothing.
use mathlib.Core.Path.{subst}
use Prim.Native.Nat.{◌+◌, ◌*◌}
use lib.ListN.{set}
use lib.Seq.{paste}
use Rattle.def.specs.declared.{EvcRefP.EvcRefP}
use Rattle.keys.specs.Keys.{row_length, head_row, number_row, entry_row, head_of}
use Rattle.refp.specs.Running.{EntryStored}
use Rattle.refp.proofs.Entries.{entry-stored}
use Rattle.entries.proofs.EntryLaws.{entry-parts}
use borrow.Author.Rules.{rules}
use Rattle.entries.proofs.take_entry.Goals as goal

pub returns : goal.returns
returns c =
    let rows = c.args.rows.now in
    let j = c.args.j in
    let e = c.args.entry in
    let headed = set (set rows (row_length * head_row + j) (head_of e)) (row_length * number_row + j) e.poc in
    rw (c.write_row.ensures, c.head_of.ensures)
    (subst (λ (x : EvcRefP). EntryStored rows (paste headed (row_length * (entry_row + j)) e.list_poc row_length) j x)
    (entry-parts e (search rules))
    (entry-stored rows c.requires.0 j c.requires.1 (head_of e) e.poc e.list_poc (search rules)))
