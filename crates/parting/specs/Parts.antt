-- A machine by value and the running machine: what taking it apart comes to.
-- Assumes nothing.
use Rattle.std.specs.Prelude.{ℕ, ◌≡◌, true, List}
use Rattle.keys.specs.Keys.{stands, lists_in, Sized}
use Rattle.whole.specs.Whole.{whole}
use Rattle.machine.specs.declared.{Machine.Machine, Scalars.Scalars}

-- Lists and record are the machine's; the state is whole where the machine's is, and then it is the machine's.
pub record TakenMachine (m : Machine) (keys rows : List ℕ) (s : Scalars) : Type 0 where
  pub same_whole : whole (stands keys rows s.rest) ≡ whole m.pm
  pub same_state : whole m.pm ≡ true → stands keys rows s.rest ≡ m.pm
  pub same_lists : lists_in rows ≡ m.refp
  pub same_record : s.poc ≡ m.poc
  pub sized : Sized keys rows
