-- `storing::drop_entries` meets its contract. Assumes nothing.
use mathlib.Core.Path.{sym, subst}
use Rattle.refp.specs.Running.{Dropped}
use Rattle.refp.proofs.Entries.{entries-dropped}
use Rattle.storing.proofs.drop_entries.Goals as goal

pub returns : goal.returns
returns c =
    subst (Dropped c.args.rows.now)
    (rw (← c.clear_row.ensures) (sym c.clear_row-2.ensures))
    (entries-dropped c.args.rows.now c.requires)
