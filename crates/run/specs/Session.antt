-- A session between two pieces of the input, and what the next line, a run over one piece, and the end of the input make of it.
-- Assumes nothing.
use Rattle.std.specs.Prelude.{ℕ, ◌+◌, ◌*◌, ◌≤◌, ◌≡◌, cond, List, [], ◌++◌, ltb, length, take, drop, replicate, Option, Some, None}
use Rattle.line.specs.declared.Call.{Call}
use Rattle.keys.specs.Keys.{rows_length}
use Rattle.def.specs.State.{slots}
use Rattle.line.specs.Calls.{read_line}
use Rattle.line.specs.Lines.{line_end, line_at}
use Rattle.machine.specs.Running.{machine_in, new_scalars, Runs}
use Rattle.run.specs.declared.Session.{Session}
use Rattle.run.specs.Partial.{kept_length}
use Rattle.run.specs.Run.{Runner, feed, finish}

-- The line of an answer has 17 characters.
abbrev pub answer_size : ℕ
answer_size = 17

-- The run that lent arrays and a session stand for.
abbrev pub runner_in : List ℕ → List ℕ → Session → Runner
runner_in keys rows s = record { machine = machine_in keys rows s.scalars; line = s.partial.items }

-- The next line, `held` being what stands before the piece: what it says and the place behind it, or nothing where it doesn't end inside the
-- piece.
abbrev pub next_at : List ℕ → List ℕ → ℕ → Option (Option Call × ℕ)
next_at held piece at =
    cond (ltb (line_end piece at) (length piece)) (Some (read_line (held ++ line_at piece at), line_end piece at + 1)) None

-- A session whose state is whole.
pub record SoundSession (keys rows : List ℕ) (s : Session) : Type 0 where
  pub runs : Runs keys rows s.scalars

-- The session at the start. The new machine's keys and rows are all zero.
pub record NewSession (s : Session) : Type 0 where
  pub new_scalars : s.scalars ≡ new_scalars
  pub no_line : s.partial.items ≡ []

abbrev pub new_keys : List ℕ
new_keys = replicate slots 0

abbrev pub new_rows : List ℕ
new_rows = replicate rows_length 0

-- There is room for an answer to each byte, since each may be a newline.
pub record RunRoom (keys rows : List ℕ) (s : Session) (piece out : List ℕ) : Type 0 where
  pub sound : SoundSession keys rows s
  pub answers_fit : answer_size * length piece ≤ length out

-- The output begins with what the run over the piece writes and is as it was behind that; the session is the run after it, up to what is
-- kept of its line.
pub record RanOver (keys rows : List ℕ) (s : Session) (piece out : List ℕ) (after : Session) (len : ℕ) (keys' rows' out' : List ℕ) : Type 0 where
  pub written : out' ≡ (feed (runner_in keys rows s) piece).written ++ drop len out
  pub length_is : len ≡ length (feed (runner_in keys rows s) piece).written
  pub machine : machine_in keys' rows' after.scalars ≡ (feed (runner_in keys rows s) piece).runner.machine
  pub line : after.partial.items ≡ take kept_length (feed (runner_in keys rows s) piece).runner.line
  pub stays_sound : SoundSession keys' rows' after

pub record EndRoom (keys rows : List ℕ) (s : Session) (out : List ℕ) : Type 0 where
  pub sound : SoundSession keys rows s
  pub answer_fits : answer_size ≤ length out

-- At the end of the input: the answer to a last line that lacks its newline, and the output as it was behind it; the machine is the one
-- after that line, and the session holds no line.
pub record EndedOver (keys rows : List ℕ) (s : Session) (out : List ℕ) (after : Session) (len : ℕ) (keys' rows' out' : List ℕ) : Type 0 where
  pub written : out' ≡ (finish (runner_in keys rows s)).written ++ drop len out
  pub length_is : len ≡ length (finish (runner_in keys rows s)).written
  pub machine : machine_in keys' rows' after.scalars ≡ (finish (runner_in keys rows s)).runner.machine
  pub no_line : after.partial.items ≡ []
  pub stays_sound : SoundSession keys' rows' after
