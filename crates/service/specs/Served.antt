-- The program's loop from the new machine.
-- Assumes nothing.
use Rattle.std.specs.Prelude.{ℕ, List, [], Option, Result}
use Rattle.run.specs.Run.{Fed}
use Rattle.conversation.specs.declared.Stop.{Stop}
use Rattle.conversation.specs.Conversation.{Turns, Conversed}
use Rattle.service.specs.Calls.{piece_room, HearsCalls, EndsCalls, new_run}

abbrev pub written_by : Fed → List ℕ
written_by f = f.written

-- There are no messages.
abbrev pub no_messages : Fed → List ℕ
no_messages f = []

-- Turns of a run, and behind them the end of the input where it was reached.
abbrev pub CallTurns : Fed → ℕ → List ℕ → List ℕ → List ℕ → Fed → Type 0
CallTurns = Turns HearsCalls written_by no_messages

-- What was read and written, by how the loop ended.
abbrev pub Served : Option (List ℕ) → Option (List ℕ) → Option (List ℕ) → Option (List ℕ) → Fed → Result (Unit {0}) Stop → Fed → Type 0
Served left left' wrote wrote' s r t = Conversed HearsCalls EndsCalls written_by no_messages piece_room left left' wrote wrote' (Option.None) (Option.None) s r t

-- The same from the new machine.
pub record ServedNew (left left' wrote wrote' : Option (List ℕ)) (r : Result (Unit {0}) Stop) : Type 0 where
  pub last : Fed
  pub served : Served left left' wrote wrote' new_run r last
