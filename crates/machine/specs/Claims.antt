-- What holds of every call and every line: one that is turned down leaves state, lists and record as they were; a whole state stays whole;
-- so refusal 7 never follows in a run from the new machine; and no line gives the refusals of functions that no line calls. The proofs stand
-- in proofs/EveryCall.antt.
-- Assumes nothing.
use Rattle.std.specs.Prelude.{◌≡◌, true, length, Option}
use Rattle.def.specs.declared.Refusal.{Refusal}
use Rattle.def.specs.Refusals.{refusal_number, NumberInUse}
use Rattle.def.specs.State.{slots}
use Rattle.whole.specs.Whole.{whole}
use Rattle.line.specs.declared.{Call.Call, Reply.Reply}
use Rattle.machine.specs.declared.Machine.{Machine}
use Rattle.machine.specs.Step.{new_machine, step, step_line}

-- A status that is the number of a refusal.
abbrev pub TurnedDown : Reply → Type 0
TurnedDown r = NumberInUse r.status

abbrev pub CallUnchanged : Type 0
CallUnchanged = (m : Machine) (c : Call) → TurnedDown (step m c).reply → (step m c).machine ≡ m

-- A bad line too.
abbrev pub LineUnchanged : Type 0
LineUnchanged = (m : Machine) (l : Option Call) → TurnedDown (step_line m l).reply → (step_line m l).machine ≡ m

-- A machine whose state is whole, with all its slots.
pub record Sound (m : Machine) : Type 0 where
  pub whole_state : whole m.pm ≡ true
  pub all_slots : length m.pm.pic ≡ slots

abbrev pub CallSound : Type 0
CallSound = (m : Machine) (c : Call) → Sound m → Sound (step m c).machine

abbrev pub LineSound : Type 0
LineSound = (m : Machine) (l : Option Call) → Sound m → Sound (step_line m l).machine

abbrev pub NewSound : Type 0
NewSound = Sound new_machine

-- On such a machine no call and no line is answered with 7.
abbrev pub CallNotSeven : Type 0
CallNotSeven = (m : Machine) (c : Call) → Sound m → (step m c).reply.status ≡ 7 → ⊥

abbrev pub LineNotSeven : Type 0
LineNotSeven = (m : Machine) (l : Option Call) → Sound m → (step_line m l).reply.status ≡ 7 → ⊥

-- Refusals of what is no call of a line: 13 of copy, 14 of copy and why, 17 of the depths and the planner, the planner's 19, and 20 of the
-- writer of call lines.
pub data OfNoLine : Refusal → Type 0 where
  same_number : OfNoLine Refusal.SameNumber
  no_such_place : OfNoLine Refusal.NoSuchPlace
  bad_length : OfNoLine Refusal.BadLength
  bad_plan : OfNoLine Refusal.BadPlan
  no_room : OfNoLine Refusal.NoRoom

-- On any machine no call and no line is answered with one of them.
abbrev pub CallGivesNone : Type 0
CallGivesNone = (m : Machine) (c : Call) (why : Refusal) → OfNoLine why → (step m c).reply.status ≡ refusal_number why → ⊥

abbrev pub LineGivesNone : Type 0
LineGivesNone = (m : Machine) (l : Option Call) (why : Refusal) → OfNoLine why → (step_line m l).reply.status ≡ refusal_number why → ⊥
