-- A state by value and the running form: what taking it apart comes to.
-- Assumes nothing.
use Rattle.std.specs.Prelude.{ℕ, ◌≡◌, true, length}
use mathlib.Core.List.{List, [], ◌∷◌, map, Memᴰ}
use Rattle.def.specs.State.{slots}
use Rattle.def.specs.declared.{Slot.Slot, EvcPm.EvcPm, EvcRefP.EvcRefP}
use Rattle.keys.specs.declared.{Rest.Rest}
use Rattle.keys.specs.Keys.{lists_in, stands, Sized}
use Rattle.whole.specs.Whole.{whole}
use Rattle.conversion.specs.Keyed.{key_for, rows_with, Shaped}

-- The rows with the list numbers of several slots, one after the other.
unfoldable pub rows_of : List ℕ → List Slot → List ℕ
rows_of rows [] = rows
rows_of rows (s ∷ ss) = rows_of (rows_with rows s) ss

pub record TakenSlots (ss : List Slot) (keys rows after : List ℕ) : Type 0 where
  pub keys_are : keys ≡ map key_for ss
  pub rows_are : after ≡ rows_of rows ss
  pub shaped : (s : Slot) → Memᴰ s ss → Shaped s
  pub slots_long : length ss ≡ slots

-- The state that keys, rows and rest stand for is whole where the state is, and then it is the state; the lists stay.
pub record TakenApart (pm : EvcPm) (lists : List EvcRefP) (keys rows : List ℕ) (rest : Rest) : Type 0 where
  pub same_whole : whole (stands keys rows rest) ≡ whole pm
  pub same_state : whole pm ≡ true → stands keys rows rest ≡ pm
  pub lists_stay : lists_in rows ≡ lists
  pub sized : Sized keys rows
