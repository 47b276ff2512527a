-- How a buffer is cut into lines, from any place on.
-- Assumes nothing.
use Prim.Native.Nat.{ℕ, suc, ◌+◌, ◌<◌}
use native.Mathlib.Omega.{arith}
use mathlib.Core.Path.{◌≡◌, sym, ap}
use mathlib.Core.Bool.{Bool, true, false, cond}
use mathlib.Core.List.{List, [], ◌∷◌, ◌++◌, append-nil}
use lib.ListN.{length, take, drop, length-append}
use lib.Seq.{append_snoc}
use Rattle.seq.specs.Lists.{lowest}
use Rattle.buffer.specs.Buffer.{is_newline, lines_from}

-- The first line is what stands up to the first newline, and the others are the lines behind it.
pub first-line : (line cs : List ℕ) → 0 < length line + length cs
    → lines_from line cs ≡ (line ++ take (lowest is_newline cs) cs) ∷ lines_from [] (drop (suc (lowest is_newline cs)) cs)
unfolding lines_from lowest
first-line [] [] h = absurd (omega arith)
first-line (c ∷ line) [] h = rw (← append-nil (c ∷ line))
first-line line (c ∷ cs) h = by (is_newline c) (first-line (line ++ (c ∷ [])) cs (omega (arith, length-append line (c ∷ []))))
  where
    by : (b : Bool)
        → lines_from (line ++ (c ∷ [])) cs ≡ ((line ++ (c ∷ [])) ++ take (lowest is_newline cs) cs) ∷ lines_from [] (drop (suc (lowest is_newline cs)) cs)
        → cond b (line ∷ lines_from [] cs) (lines_from (line ++ (c ∷ [])) cs)
        ≡ (line ++ take (cond b 0 (suc (lowest is_newline cs))) (c ∷ cs)) ∷ lines_from [] (drop (suc (cond b 0 (suc (lowest is_newline cs)))) (c ∷ cs))
    by true e = ap (λ (l : List ℕ). l ∷ lines_from [] cs) (sym (append-nil line))
    by false e = rw (append_snoc line c (take (lowest is_newline cs) cs)) at e
