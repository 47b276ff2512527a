-- From a derivation on the record to what the call leaves of the slices.
-- Assumes nothing.
use Rattle.std.specs.Prelude.{Result, Ok, Err}
use Rattle.std.specs.Result.{is_ok}
use native.Mathlib.Omega.{arith}
use mathlib.Core.Bool.{true, false, true≢false}
use mathlib.Core.Bool as Bool
use mathlib.Core.Path.{◌≡◌, refl, sym, ap, ◌∙◌}
use mathlib.Core.List.{List}
use Prim.Native.Nat.{ℕ}
use Rattle.def.specs.declared.{EvcPoc.EvcPoc, PocVal.PocVal, Refusal.Refusal}
use Rattle.def.proofs.Refusals.{refusals-in-use}
use Rattle.keys.specs.Keys.{Sized}
use Rattle.poc.specs.PictureNumber.{Derivation, derive}
use Rattle.line.specs.declared.{Call.Call, Reply.Reply}
use Rattle.registers.specs.Registers.{poc_of}
use Rattle.machine.specs.declared.Scalars.{Scalars}
use Rattle.machine.specs.Step.{derived_reply, step}
use Rattle.machine.specs.Running.{machine_in, Makes}
use Rattle.machine.specs.Claims.{TurnedDown}
use Rattle.machine.proofs.Running.{record-makes}
use Rattle.running.specs.Slices.{slices, scalars_at, CallLeaves}
use Rattle.running.proofs.Answering.{call-refused, call-made}
use Rattle.recording.specs.Recorded.{Recorded}

-- the reply to a derivation is a refusal where there is no number, and nowhere else
turned-down : (a : Result PocVal Refusal) → is_ok a ≡ false → TurnedDown (derived_reply 6 a)
turned-down (Ok n) e = absurd (true≢false e)
turned-down (Err why) e = refusals-in-use why

not-turned-down : (a : Result PocVal Refusal) → is_ok a ≡ true → TurnedDown (derived_reply 6 a) → ⊥
not-turned-down (Ok n) e t = omega (arith, t.0)
not-turned-down (Err why) e t = absurd (Bool.false≢true e)

module _ (L t : ℕ) (registers : List ℕ) {poc : EvcPoc} {d : Derivation} {reply : Reply} (read : poc ≡ poc_of registers)
    (derived : d ≡ derive L t poc) (replied : reply ≡ derived_reply 6 d.answer) where
  abbrev call : Call
  call = Call.PocDerivation L t

  is-derived : d ≡ derive L t (poc_of registers)
  is-derived = derived ∙ ap (derive L t) read

  is-reply : reply ≡ derived_reply 6 (derive L t (poc_of registers)).answer
  is-reply = replied ∙ rw is-derived refl

  abbrev after-it : Scalars
  after-it = record { rest = (scalars_at registers).rest; poc = (derive L t (poc_of registers)).poc }

  makes : (keys rows : List ℕ) → Sized keys rows
      → Makes (derived_reply 6 (derive L t (poc_of registers)).answer) after-it (scalars_at registers) keys rows keys rows
      (step (machine_in keys rows (scalars_at registers)) call)
  unfolding step
  makes keys rows sized = record-makes keys rows (scalars_at registers) L t sized refl refl

  pub leaves-refused : is_ok d.answer ≡ false → (keys rows : List ℕ) → Sized keys rows
      → CallLeaves reply call (slices keys rows registers) (slices keys rows registers)
  leaves-refused none keys rows sized =
      rw is-reply (call-refused call registers refl (makes keys rows sized) (rw (sym is-reply, replied) (turned-down d.answer none)))

  pub leaves-made : {after : List ℕ} → is_ok d.answer ≡ true → Recorded registers after d.poc
      → (keys rows : List ℕ) → Sized keys rows → CallLeaves reply call (slices keys rows registers) (slices keys rows after)
  leaves-made one written keys rows sized =
      rw is-reply
      (call-made call registers refl (makes keys rows sized) (λ down. not-turned-down d.answer one (rw (sym replied, is-reply) down))
      written.rest_stays (written.poc_is ∙ ap (λ (x : Derivation). x.poc) is-derived))
