-- What a run makes of a piece of its input and of the end, and what it answers.
-- Assumes nothing.
use Rattle.std.specs.Prelude.{ℕ, ◌≡◌, List, [], ◌++◌, take}
use Rattle.run.specs.Partial.{kept_length}
use Rattle.run.specs.Run.{Runner, Fed, feed, finish, start}

-- How many bytes a piece has at most.
abbrev pub piece_room : ℕ
piece_room = 16384

-- Machine and line are those of a run over the input, up to what is kept of its line, and what was given to be written is what that run
-- writes.
pub record RanAll (from : Runner) (input given : List ℕ) (to : Runner) : Type 0 where
  pub machine : to.machine ≡ (feed from input).runner.machine
  pub line : take kept_length to.line ≡ take kept_length (feed from input).runner.line
  pub written : given ≡ (feed from input).written

-- A piece is run over; of a line that it does not finish the beginning is kept.
pub record HearsCalls (s : Fed) (piece : List ℕ) (t : Fed) : Type 0 where
  pub machine : t.runner.machine ≡ (feed s.runner piece).runner.machine
  pub line : t.runner.line ≡ take kept_length (feed s.runner piece).runner.line
  pub written : t.written ≡ (feed s.runner piece).written

-- At the end of the input a last line without its newline is answered, and none is left.
pub record EndsCalls (s t : Fed) : Type 0 where
  pub machine : t.runner.machine ≡ (finish s.runner).runner.machine
  pub no_line : t.runner.line ≡ []
  pub written : t.written ≡ (finish s.runner).written

-- What a run writes for what is left of its input.
abbrev pub answers_from : Runner → List ℕ → List ℕ
answers_from r rest = (feed r rest).written ++ (finish (feed r rest).runner).written

-- The new machine before any line.
abbrev pub new_run : Fed
new_run = record { runner = start; written = [] }
