-- A whole machine taken apart is the machine that it was. Assumes nothing.
use Prim.Native.Nat.{ℕ}
use mathlib.Core.Path.{◌≡◌}
use mathlib.Core.Bool.{true}
use mathlib.Core.List.{List}
use Rattle.whole.specs.Whole.{whole}
use Rattle.machine.specs.declared.{Machine.Machine, Scalars.Scalars}
use Rattle.machine.specs.Running.{machine_in}
use Rattle.parting.specs.Parts.{TakenMachine}

pub same-machine : {m : Machine} {keys rows : List ℕ} {s : Scalars} → TakenMachine m keys rows s → whole m.pm ≡ true → machine_in keys rows s ≡ m
same-machine taken w = rw (taken.same_state w, taken.same_lists, taken.same_record)
