-- by what its parts ensure. Assumes nothing.
use mathlib.Core.Path.{refl}
use Rattle.conversion.proofs.Fitting.{keys-fit, lease-fits}
use Rattle.conversion.proofs.together.put_together.Goals as goal

pub put_slots-requires : goal.put_slots-requires
put_slots-requires c =
    (c.requires.0, keys-fit c.args.keys.now c.args.rows.now c.args.rest c.requires.1 c.requires.0.slots_long)

pub slot_of-requires : goal.slot_of-requires
slot_of-requires c =
    (c.requires.0.rows_long, lease-fits c.args.keys.now c.args.rows.now c.args.rest c.requires.1)

pub returns : goal.returns
returns c = rw (c.slot_of.ensures, c.put_slots.ensures) refl
