-- The new machine, before any line.
-- Assumes nothing.
use Rattle.std.proofs.Common.{◌≡◌, ℕ, List, [], refl, sym, ap, ◌∙◌, subst}
use Rattle.std.specs.Prelude.{Option, None, Some, IfSome, Result, Ok, Err, OnOk}
use Rattle.std.specs.Io.KnownBytes.{Appends}
use Rattle.std.proofs.lemmas.List.{length-replicate}
use Rattle.def.specs.State.{slots}
use Rattle.keys.specs.Keys.{rows_length}
use Rattle.whole.specs.Whole.{whole}
use Rattle.machine.specs.declared.Machine.{Machine}
use Rattle.machine.specs.Running.{Runs}
use Rattle.machine.proofs.Running.{new-machine}
use Rattle.machine.proofs.EveryCall.{new-sound}
use Rattle.run.specs.declared.Session.{Session}
use Rattle.run.specs.Run.{Fed, start, program}
use Rattle.run.proofs.Pieces.{feed-answers}
use Rattle.run.specs.Session.{NewSession, new_keys, new_rows, runner_in, SoundSession}
use Rattle.conversation.specs.declared.Stop.{Stop}
use Rattle.conversation.specs.Pouring.{AppendsFront}
use Rattle.service.specs.Calls.{new_run, answers_from}

pub new-sound-session : (s : Session) → NewSession s → SoundSession new_keys new_rows s
new-sound-session s new = record {
  runs = subst (Runs new_keys new_rows) (sym new.new_scalars) (record {
    sized = record { slots_long = length-replicate {A = ℕ} slots 0; rows_long = length-replicate {A = ℕ} rows_length 0 };
    whole_state = ap (λ (m : Machine). whole m.pm) (new-machine new_rows refl) ∙ new-sound.whole_state;
  });
}

pub new-is : (s : Session) → NewSession s → ◌≡◌ {A = Fed} (record { runner = runner_in new_keys new_rows s; written = [] }) new_run
new-is s new = rw (new.new_scalars, new.no_line, new-machine new_rows refl) refl

answers-new : {s : Fed} (bytes : List ℕ) → s ≡ new_run → answers_from s.runner bytes ≡ program bytes
unfolding program
answers-new bytes e = ap (λ (f : Fed). answers_from f.runner bytes) e ∙ feed-answers start bytes

-- What a run from there writes is what the program writes.
pub new-writes : (left wrote wrote' : Option (List ℕ)) {s : Fed} (r : Result (Unit {0}) Stop) → s ≡ new_run
    → OnOk r (IfSome left (λ bytes. Appends wrote wrote' (answers_from s.runner bytes)))
    → OnOk r (IfSome left (λ bytes. Appends wrote wrote' (program bytes)))
new-writes left wrote wrote' (Err stop) e h = tt
new-writes None wrote wrote' (Ok u) e h = tt
new-writes (Some bytes) wrote wrote' (Ok u) e h = subst (λ (w : List ℕ). Appends wrote wrote' w) (answers-new bytes e) h

pub new-begins : (left wrote wrote' : Option (List ℕ)) {s : Fed} → s ≡ new_run
    → IfSome left (λ bytes. AppendsFront wrote wrote' (answers_from s.runner bytes))
    → IfSome left (λ bytes. AppendsFront wrote wrote' (program bytes))
new-begins None wrote wrote' e h = tt
new-begins (Some bytes) wrote wrote' e h = subst (λ (w : List ℕ). AppendsFront wrote wrote' w) (answers-new bytes e) h
