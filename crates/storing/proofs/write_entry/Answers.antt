-- `storing::write_entry` meets its contract. Assumes nothing.
use Prim.Native.Nat.{ℕ, ◌+◌, ◌*◌}
use mathlib.Core.Path.{subst₂}
use native.Mathlib.Omega.{arith}
use Rattle.keys.specs.Keys.{row_at}
use Rattle.refp.specs.Running.{entry_with, EntryStored}
use Rattle.refp.proofs.Entries.{picture-stored}
use Rattle.storing.proofs.write_entry.Goals as goal

pub returns : goal.returns
returns c =
    let e = c.buffer_of-buf.ensures.0 in
    let b = c.requires.2.buffer in
    subst₂
    (λ (b n : ℕ). EntryStored c.args.rows.now c.copy_row.new.rows c.args.j (entry_with (2 * b + 1) n (row_at c.args.rows.now b)))
    e c.number_of.ensures
    (picture-stored c.args.rows.now c.requires.0 c.args.j c.requires.1 _ _ _ _ c.buffer_of-buf.result
    (omega arith) c.write_head.ensures c.copy_row.ensures)
