-- `storing::write_entries` meets its contract. The loop's invariant: the first j entries are written. Assumes nothing.
use mathlib.Core.Path.{refl}
use native.Mathlib.Omega.{arith}
use Rattle.storing.proofs.Entering.{slot_held, enter-turn}
use Rattle.storing.proofs.write_entries.Goals as goal

pub bounds-keys-slot : goal.bounds-keys-slot
bounds-keys-slot c =
    let a = c.args in
    let l = c.requires.sized.slots_long in
    omega (arith, (slot_held a.keys.now a.list.now a.rows.now a.from c.requires c.loop-j.j c.loop-j-test.true).0)

pub write_entry-requires : goal.write_entry-requires
write_entry-requires c =
    let a = c.args in
    let f = c.requires.fits in
    (c.loop-j.invariant.rows_long, omega arith, (slot_held a.keys.now a.list.now a.rows.now a.from c.requires c.loop-j.j c.loop-j-test.true).1)

pub loop-j-preserved : goal.loop-j-preserved
loop-j-preserved c =
    let l = c.loop-j in
    enter-turn c.args.keys.now c.args.list.now c.args.rows.now c.args.from c.requires l.rows
    l.j l.invariant c.loop-j-test.true c.write_entry.new.rows _ refl c.write_entry.ensures
