-- What holds of every run of the program: only the contract of `serve` is used.
-- Assumes nothing.
use Rattle.std.specs.Prelude.{ℕ, ◌≡◌, List, [], ◌++◌, Option, Result, true}
use Rattle.run.specs.Run.{Fed, program, feed, finish, start}
use Rattle.conversation.specs.declared.Stop.{Stop}
use Rattle.conversation.specs.Conversation.{is_final}
use Rattle.service.specs.Calls.{RanAll, new_run}
use Rattle.service.specs.Served.{CallTurns, Served}

-- What the turns leave is the machine after the bytes that were read.
abbrev pub TurnsRun : Type 0
TurnsRun = (s t : Fed) (n : ℕ) (input given messages : List ℕ) → CallTurns s n input given messages t → RanAll s.runner input given t.runner

pub record BeginsWith (whole front : List ℕ) : Type 0 where
  pub rest : List ℕ
  pub is : front ++ rest ≡ whole

-- Wherever the loop stopped, what was given is the beginning of what the program writes, whatever else the input would have brought.
abbrev pub ServeBegins : Type 0
ServeBegins = (t : Fed) (n : ℕ) (input given messages : List ℕ) → CallTurns new_run n input given messages t
    → (later : List ℕ) → BeginsWith (program (input ++ later)) given

-- Where the input has ended, what was given to be written, one part after the other, is what the program writes for all that was read.
abbrev pub ServeWrites : Type 0
ServeWrites = (left left' wrote wrote' : Option (List ℕ)) (r : Result (Unit {0}) Stop) (t : Fed)
    → (e : Served left left' wrote wrote' new_run r t) → is_final r ≡ true → e.out ≡ program e.input

-- The machine is then the one after the last of all lines that were read, and nothing is left of a line.
abbrev pub ServeEnds : Type 0
ServeEnds = (left left' wrote wrote' : Option (List ℕ)) (r : Result (Unit {0}) Stop) (t : Fed)
    → (e : Served left left' wrote wrote' new_run r t) → is_final r ≡ true
    → (t.runner.machine ≡ (finish (feed start e.input).runner).runner.machine) × (t.runner.line ≡ [])
