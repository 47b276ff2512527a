-- A run line by line: what a piece holds up to its first newline ends the unfinished line, and what stands behind its last newline extends it.
-- Assumes nothing.
use Prim.Native.Nat.{ℕ, suc, ◌≤◌, ◌<◌}
use native.Mathlib.Nat.{le_of_suc-le-suc, not-suc-le-zero}
use mathlib.Core.Path.{◌≡◌, sym, ap, ◌∙◌}
use mathlib.Core.Bool.{Bool, true, false, cond}
use mathlib.Core.List.{List, [], ◌∷◌, ◌++◌, append-nil}
use lib.ListN.{length, take, drop}
use lib.Seq.{append_snoc}
use Rattle.seq.specs.Lists.{lowest}
use Rattle.machine.specs.declared.Machine.{Machine}
use Rattle.run.specs.Run.{Runner, Fed, after, end_line, extend_line, feed}
use Rattle.line.specs.Lines.{is_newline}

abbrev pub runner_of : Machine → List ℕ → Runner
runner_of m line = record { machine = m; line = line }

-- The run from the end of a line on.
abbrev pub ended : Machine → List ℕ → List ℕ → Fed
ended m line rest = after (end_line (runner_of m line)).written (feed (end_line (runner_of m line)).runner rest)

-- A run that has written nothing more.
abbrev pub stopped : Machine → List ℕ → Fed
stopped m line = record { runner = runner_of m line; written = [] }

module _ (m : Machine) where
  one_more : (line : List ℕ) (c : ℕ) (cs : List ℕ) → (line ++ (c ∷ [])) ++ cs ≡ line ++ (c ∷ cs)
  one_more line c cs = append_snoc line c cs

  pub feed-line : (line cs : List ℕ) → lowest is_newline cs < length cs
      → feed (runner_of m line) cs ≡ ended m (line ++ take (lowest is_newline cs) cs) (drop (suc (lowest is_newline cs)) cs)
  unfolding feed lowest
  feed-line line [] h = absurd (not-suc-le-zero h)
  feed-line line (c ∷ cs) h = go (is_newline c) h (feed-line (line ++ (c ∷ [])) cs)
    where
      go : (b : Bool) → cond b 0 (suc (lowest is_newline cs)) < suc (length cs)
          → (lowest is_newline cs < length cs
          → feed (runner_of m (line ++ (c ∷ []))) cs ≡ ended m ((line ++ (c ∷ [])) ++ take (lowest is_newline cs) cs) (drop (suc (lowest is_newline cs)) cs))
          → (let next = cond b (end_line (runner_of m line)) (extend_line (runner_of m line) c) in
          let rest = feed next.runner cs in
          record { runner = rest.runner; written = next.written ++ rest.written })
          ≡ ended m (line ++ take (cond b 0 (suc (lowest is_newline cs))) (c ∷ cs)) (drop (suc (cond b 0 (suc (lowest is_newline cs)))) (c ∷ cs))
      go true k rest = rw (append-nil line)
      go false k rest =
          rest (le_of_suc-le-suc k)
          ∙ ap (λ (l : List ℕ). ended m l (drop (suc (lowest is_newline cs)) cs)) (one_more line c (take (lowest is_newline cs) cs))

  pub feed-rest : (line cs : List ℕ) → length cs ≤ lowest is_newline cs → feed (runner_of m line) cs ≡ stopped m (line ++ cs)
  unfolding feed lowest
  feed-rest line [] h = ap (stopped m) (sym (append-nil line))
  feed-rest line (c ∷ cs) h = go (is_newline c) h (feed-rest (line ++ (c ∷ [])) cs)
    where
      go : (b : Bool) → suc (length cs) ≤ cond b 0 (suc (lowest is_newline cs))
          → (length cs ≤ lowest is_newline cs → feed (runner_of m (line ++ (c ∷ []))) cs ≡ stopped m ((line ++ (c ∷ [])) ++ cs))
          → (let next = cond b (end_line (runner_of m line)) (extend_line (runner_of m line) c) in
          let rest = feed next.runner cs in
          record { runner = rest.runner; written = next.written ++ rest.written })
          ≡ stopped m (line ++ (c ∷ cs))
      go true k rest = absurd (not-suc-le-zero k)
      go false k rest =
          rest (le_of_suc-le-suc k)
          ∙ ap (stopped m) (one_more line c cs)
