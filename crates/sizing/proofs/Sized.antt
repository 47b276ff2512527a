-- Slices of the right sizes: each is as long as it should be.
-- Assumes nothing.
use mathlib.Core.Path.{◌≡◌}
use mathlib.Core.Bool.{true, ◌&&◌}
use lib.Dec.{eqb}
use lib.ListN.{length}
use borrow.Author.Tests.{eqb-true}
use Rattle.seq.proofs.Tests.{and_left, and_right}
use Rattle.def.specs.State.{slots}
use Rattle.keys.specs.Keys.{rows_length, Sized}
use Rattle.registers.specs.Registers.{registers_length}
use Rattle.machine.specs.Lent.{Slices, sized}

pub sized-long : (s : Slices) → sized s ≡ true → Sized s.keys s.rows × (length s.registers ≡ registers_length)
sized-long s e =
    let both = and_left (eqb (length s.keys) slots && eqb (length s.rows) rows_length) (eqb (length s.registers) registers_length) e in (
      record {
        slots_long = eqb-true (length s.keys) slots (and_left (eqb (length s.keys) slots) (eqb (length s.rows) rows_length) both);
        rows_long = eqb-true (length s.rows) rows_length (and_right (eqb (length s.keys) slots) (eqb (length s.rows) rows_length) both);
      },
      eqb-true (length s.registers) registers_length (and_right (eqb (length s.keys) slots && eqb (length s.rows) rows_length) (eqb (length s.registers) registers_length) e),
    )
