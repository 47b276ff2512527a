-- What a piece makes of a run, and what a run gives to the output where there are no messages.
-- Assumes nothing.
use Rattle.std.proofs.Common.{ℕ, List, [], take}
use Rattle.std.specs.Prelude.{Option, None, Some, IfSome, Result, Ok, Err, OnOk}
use Rattle.std.specs.Io.KnownBytes.{Appends}
use Rattle.run.specs.declared.Session.{Session}
use Rattle.run.specs.Session.{runner_in, RanOver}
use Rattle.run.proofs.Claims.{front}
use Rattle.conversation.specs.declared.Stop.{Stop}
use Rattle.conversation.specs.Conversation.{Fronts}
use Rattle.service.specs.Calls.{HearsCalls}

pub hears : {keys rows piece out keys' rows' out' given : List ℕ} {s after : Session} {len : ℕ} → RanOver keys rows s piece out after len keys' rows' out'
    → HearsCalls (record { runner = runner_in keys rows s; written = given }) piece (record { runner = runner_in keys' rows' after; written = take len out' })
hears {out' = out'} {len = len} e = record { machine = e.machine; line = e.line; written = front out' _ _ len e.written e.length_is }

pub output-alone : (left wrote wrote' said said' : Option (List ℕ)) (answers : List ℕ → List ℕ) (r : Result (Unit {0}) Stop)
    → OnOk r (IfSome left (λ bytes. Appends wrote wrote' (answers bytes) × Fronts said said' []))
    → OnOk r (IfSome left (λ bytes. Appends wrote wrote' (answers bytes)))
output-alone left wrote wrote' said said' answers (Err stop) h = tt
output-alone None wrote wrote' said said' answers (Ok u) h = tt
output-alone (Some bytes) wrote wrote' said said' answers (Ok u) h = h.0
