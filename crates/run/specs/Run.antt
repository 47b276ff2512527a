-- Section 11 of the specification: calls are read from the input, one a line, and their answers are written, one a line.
-- Assumes nothing.
use Rattle.std.specs.Prelude.{ℕ, ◌≡◌, cond, List, [], ◌∷◌, ◌++◌, eqb}
use Rattle.line.specs.Calls.{read_line}
use Rattle.line.specs.Answers.{answer_line}
use Rattle.line.specs.Lines.{newline, lines_from}
use Rattle.machine.specs.declared.Machine.{Machine}
use Rattle.machine.specs.Step.{step_line, new_machine}

-- The answers to lines, each on the machine that the one before left.
unfoldable pub answers_to : Machine → List (List ℕ) → List ℕ
answers_to m [] = []
answers_to m (l ∷ ls) = answer_line (step_line m (read_line l)).reply ++ answers_to (step_line m (read_line l)).machine ls

-- What the program writes for an input.
unfoldable pub program : List ℕ → List ℕ
unfolding lines_from answers_to
program input = answers_to new_machine (lines_from [] input)

-- A run that has read part of its input: the machine, and the line that is not finished yet.
pub record Runner : Type 0 where
  pub machine : Machine
  pub line : List ℕ

-- A run after one more byte, and what it writes then.
pub record Fed : Type 0 where
  pub runner : Runner
  pub written : List ℕ

-- What was written before, and then a run from where that one stopped.
abbrev pub after : List ℕ → Fed → Fed
after before f = record { runner = f.runner; written = before ++ f.written }

-- A newline ends the line, which is answered; any other byte is one more of it.
abbrev pub end_line : Runner → Fed
end_line r =
    record {
      runner = record { machine = (step_line r.machine (read_line r.line)).machine; line = [] };
      written = answer_line (step_line r.machine (read_line r.line)).reply;
    }

abbrev pub extend_line : Runner → ℕ → Fed
extend_line r c = record { runner = record { machine = r.machine; line = r.line ++ (c ∷ []) }; written = [] }

abbrev pub feed_byte : Runner → ℕ → Fed
feed_byte r c = cond (eqb c newline) (end_line r) (extend_line r c)

-- A run over one piece of the input, and over pieces in turn.
unfoldable pub feed : Runner → List ℕ → Fed
feed r [] = record { runner = r; written = [] }
feed r (c ∷ cs) =
    let next = feed_byte r c in
    let rest = feed next.runner cs in
    record { runner = rest.runner; written = next.written ++ rest.written }

unfoldable pub feed_pieces : Runner → List (List ℕ) → Fed
unfolding feed
feed_pieces r [] = record { runner = r; written = [] }
feed_pieces r (p ∷ ps) =
    let next = feed r p in
    let rest = feed_pieces next.runner ps in
    record { runner = rest.runner; written = next.written ++ rest.written }

-- What a last line lacks: its newline, or nothing where no line is left.
abbrev pub lacked_newline : List ℕ → List ℕ
lacked_newline [] = []
lacked_newline (c ∷ cs) = newline ∷ []

-- At the end of the input a last line without its newline is ended as if it had one.
abbrev pub finish : Runner → Fed
finish r = feed r (lacked_newline r.line)

abbrev pub start : Runner
start = record { machine = new_machine; line = [] }

unfoldable pub joined : List (List ℕ) → List ℕ
joined [] = []
joined (p ∷ ps) = p ++ joined ps

-- However the input is cut into pieces, what is written is what the program writes for the whole.
abbrev pub PiecesAgree : Type 0
PiecesAgree = (pieces : List (List ℕ)) → (feed_pieces start pieces).written ++ (finish (feed_pieces start pieces).runner).written ≡ program (joined pieces)
