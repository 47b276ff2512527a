-- What a call leaves of the slices of a machine taken apart is what the definition makes of the machine.
-- Assumes nothing.
use Rattle.std.specs.Prelude.{Some, Err}
use mathlib.Core.Path.{◌≡◌, refl, sym, ap, ◌∙◌}
use mathlib.Core.Bool.{Bool, true, false, true≢false}
use mathlib.Core.List.{List}
use Prim.Native.Nat.{ℕ}
use lib.ListN.{length, length-map}
use Rattle.def.proofs.Refusals.{refusals-in-use}
use Rattle.def.specs.State.{slots}
use Rattle.def.specs.declared.{EvcPm.EvcPm, EvcPoc.EvcPoc}
use Rattle.def.specs.declared.Refusal.TheVariants.{StateNotWhole}
use Rattle.keys.specs.Keys.{slot_at, Sized}
use Rattle.registers.specs.Registers.{registers_length, rest_of, poc_of}
use Rattle.whole.specs.Whole.{whole}
use Rattle.line.specs.declared.{Call.Call, Reply.Reply}
use Rattle.line.specs.declared.Call.TheVariants.{Init, GetEmptyPic, PutPic, OutPic, RefpInit, PocDerivation}
use Rattle.line.specs.Answers.{reply_of}
use Rattle.machine.specs.declared.{Machine.Machine, Stepped.Stepped, Scalars.Scalars}
use Rattle.machine.specs.Step.{stepped, step, step_line}
use Rattle.machine.specs.Running.{machine_in, reads_state, call_byte, Runs}
use Rattle.machine.specs.Claims.{TurnedDown}
use Rattle.machine.proofs.EveryCall.{call-unchanged, call-sound}
use Rattle.machine.proofs.Running.{not-whole-step}
use Rattle.running.specs.Slices.{Slices, slices, scalars_at, sized, reply_to, Leaves}
use Rattle.running.proofs.Answering.{scalars-are}
use Rattle.parting.specs.Parts.{TakenMachine}
use Rattle.parting.proofs.Parted.{same-machine}

abbrev pub with_record : Machine → EvcPoc → Machine
with_record m p = record { pm = m.pm; refp = m.refp; poc = p }

pub record OnRecord (m m' : Machine) (call : Call) : Type 0 where
  pub replies : (step m' call).reply ≡ (step m call).reply
  pub machine_is : with_record m (step m' call).machine.poc ≡ (step m call).machine

-- a call that reads no state works on the record alone
on-record : (m m' : Machine) (call : Call) → reads_state call ≡ false → m'.poc ≡ m.poc → OnRecord m m' call
unfolding step
on-record m m' (Init size refs) r e = absurd (true≢false r)
on-record m m' GetEmptyPic r e = absurd (true≢false r)
on-record m m' (PutPic flags poc tid gap) r e = absurd (true≢false r)
on-record m m' OutPic r e = absurd (true≢false r)
on-record m m' (RefpInit slice poc layer intra limit) r e = absurd (true≢false r)
on-record m m' (PocDerivation L t) r e = record { replies = rw e; machine_is = rw e }

-- ---- a line on the slices

-- What a call comes to on keys, rows and scalars.
pub record Came (reply : Reply) (after : Scalars) (keys' rows' : List ℕ) (wanted : Stepped) : Type 0 where
  pub replies : reply ≡ wanted.reply
  pub machine_is : machine_in keys' rows' after ≡ wanted.machine
  pub still_sized : Sized keys' rows'

-- on slices whose registers hold the scalars
pub call-came : {reply : Reply} {call : Call} {s : Scalars} {keys rows registers : List ℕ} {after : Slices}
    → Sized keys rows → length registers ≡ registers_length
    → (rest_of registers ≡ s.rest) × (poc_of registers ≡ s.poc)
    → (reply ≡ reply_to (slices keys rows registers) (Some call)) × Leaves (Some call) (slices keys rows registers) after
    → Came reply (scalars_at after.registers) after.keys after.rows (step (machine_in keys rows s) call)
unfolding reply_to step_line
call-came {reply} {call} {s} {keys} {rows} {registers} {after} long thirteen held (is, leaves) =
    let fits : sized (slices keys rows registers) ≡ true = rw (long.slots_long, long.rows_long, thirteen) refl in
    let read : scalars_at registers ≡ s = sym (scalars-are registers (sym held.0) (sym held.1)) in
    let told : reply ≡ (step (machine_in keys rows (scalars_at registers)) call).reply = rw fits at is in
    record {
      replies = told ∙ ap (λ (q : Scalars). (step (machine_in keys rows q) call).reply) read;
      machine_is = leaves.machine_is fits ∙ ap (λ (q : Scalars). (step (machine_in keys rows q) call).machine) read;
      still_sized = record { slots_long = leaves.keys_long ∙ long.slots_long; rows_long = leaves.rows_long ∙ long.rows_long };
    }

-- ---- a machine taken apart

module _ {m : Machine} {keys rows : List ℕ} {s : Scalars} (taken : TakenMachine m keys rows s) where
  all_slots : whole m.pm ≡ true → length m.pm.pic ≡ slots
  all_slots w = ap (λ (q : EvcPm). length q.pic) (sym (taken.same_state w)) ∙ length-map keys (slot_at rows) ∙ taken.sized.slots_long

  module _ (call : Call) {reply : Reply} {after : Scalars} {keys' rows' : List ℕ}
      (came : Came reply after keys' rows' (step (machine_in keys rows s) call)) where
    same-reply : reply ≡ (step m call).reply
    same-reply = came.replies ∙ pick (reads_state call) refl (whole m.pm) refl
      where
        pick : (b : Bool) → reads_state call ≡ b → (w : Bool) → whole m.pm ≡ w → (step (machine_in keys rows s) call).reply ≡ (step m call).reply
        pick false e w f = (on-record m (machine_in keys rows s) call e taken.same_record).replies
        pick true e true f = rw (same-machine taken f) refl
        pick true e false f = rw (not-whole-step (machine_in keys rows s) call e (taken.same_whole ∙ f), not-whole-step m call e f) refl

    comes_to : (n : Machine) → n ≡ (step m call).machine → stepped (reply) n ≡ step m call
    comes_to n e = rw (same-reply, e) refl

    pub turned_down : TurnedDown (reply) → stepped (reply) m ≡ step m call
    turned_down t = comes_to m (sym (call-unchanged m call (rw same-reply at t)))

    pub derived : reads_state call ≡ false → stepped (reply) (with_record m after.poc) ≡ step m call
    derived e =
        comes_to (with_record m after.poc)
        (ap (λ (n : Machine). with_record m n.poc) came.machine_is ∙ (on-record m (machine_in keys rows s) call e taken.same_record).machine_is)

    -- a call that reads the state and is not turned down found it whole
    module _ (e : reads_state call ≡ true) (accepted : TurnedDown (reply) → ⊥) where
      was-whole : whole m.pm ≡ true
      was-whole = pick (whole m.pm) refl
        where
          seven : whole m.pm ≡ false → reply ≡ reply_of (call_byte call) (Err StateNotWhole)
          seven f = rw (same-reply, not-whole-step m call e f) refl

          pick : (w : Bool) → whole m.pm ≡ w → whole m.pm ≡ true
          pick true f = f
          pick false f = absurd (accepted (rw (seven f) (refusals-in-use StateNotWhole)))

      reached : machine_in keys' rows' after ≡ (step m call).machine
      reached = rw (came.machine_is, same-machine taken was-whole) refl

      pub runs : Runs keys' rows' after
      runs = record {
        sized = came.still_sized;
        whole_state =
            ap (λ (n : Machine). whole n.pm) reached
            ∙ (call-sound m call (record { whole_state = was-whole; all_slots = all_slots was-whole })).whole_state;
      }

      pub accepted-is : stepped (reply) (machine_in keys' rows' after) ≡ step m call
      accepted-is = comes_to (machine_in keys' rows' after) reached
