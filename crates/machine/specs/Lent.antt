-- The running machine as three slices that a caller owns: which machine any bits in them stand for.
-- Assumes nothing.
use Rattle.std.specs.Prelude.{ℕ, Bool, ◌&&◌, List, eqb, length}
use Rattle.def.specs.State.{slots}
use Rattle.keys.specs.Keys.{rows_length}
use Rattle.registers.specs.Registers.{registers_length, rest_of, poc_of}
use Rattle.machine.specs.declared.{Machine.Machine, Scalars.Scalars}
use Rattle.machine.specs.Running.{machine_in}

pub record Slices : Type 0 where
  pub keys : List ℕ
  pub rows : List ℕ
  pub registers : List ℕ

abbrev pub slices : List ℕ → List ℕ → List ℕ → Slices
slices keys rows registers = record { keys = keys; rows = rows; registers = registers }

-- The machine that they stand for, whatever their numbers.
abbrev pub scalars_at : List ℕ → Scalars
scalars_at registers = record { rest = rest_of registers; poc = poc_of registers }

abbrev pub machine_at : Slices → Machine
machine_at s = machine_in s.keys s.rows (scalars_at s.registers)

-- Slices of the right sizes: 27, 1,533 and 13.
abbrev pub sized : Slices → Bool
sized s = (eqb (length s.keys) slots && eqb (length s.rows) rows_length) && eqb (length s.registers) registers_length
