-- What holds of every run.
-- Assumes nothing.
use Rattle.std.specs.Prelude.{ℕ, ◌≡◌, List, [], ◌∷◌, ◌++◌, take}
use Rattle.line.specs.Calls.{read_line}
use Rattle.machine.specs.Step.{step_line}
use Rattle.machine.specs.Claims.{Sound}
use Rattle.run.specs.declared.Session.{Session}
use Rattle.run.specs.Run.{program, feed, start, joined}
use Rattle.run.specs.Session.{NewSession, new_keys, new_rows, RanOver, EndedOver}

-- A run of the code: `run_piece` over each piece in turn, each call on the arrays and the session that the one before left, and `run_end`
-- after the last. What it wrote is, of each call, as many bytes of the output as the call says. Only the contracts of the two are used.
pub data Over : List ℕ → List ℕ → Session → List (List ℕ) → List ℕ → Type 0 where
  at_end : {keys rows keys' rows' : List ℕ} {s after : Session} {out out' : List ℕ} {len : ℕ} → EndedOver keys rows s out after len keys' rows' out'
      → Over keys rows s [] (take len out')
  after_piece : {keys rows keys' rows' : List ℕ} {s after : Session} {piece : List ℕ} {pieces : List (List ℕ)} {out out' rest : List ℕ} {len : ℕ}
      → RanOver keys rows s piece out after len keys' rows' out' → Over keys' rows' after pieces rest
      → Over keys rows s (piece ∷ pieces) (take len out' ++ rest)

-- However the input is cut into pieces, what a run from the new machine writes is what the program writes for the whole input.
abbrev pub RunWrites : Type 0
RunWrites = (s : Session) (pieces : List (List ℕ)) (written : List ℕ) → NewSession s → Over new_keys new_rows s pieces written → written ≡ program (joined pieces)

-- Whatever a run has read, its state is whole, and no line is then answered with 7.
abbrev pub RunSound : Type 0
RunSound = (input : List ℕ) → Sound (feed start input).runner.machine

abbrev pub RunNotSeven : Type 0
RunNotSeven = (input line : List ℕ) → (step_line (feed start input).runner.machine (read_line line)).reply.status ≡ 7 → ⊥
