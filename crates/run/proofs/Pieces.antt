-- However the input is cut into pieces, what is written is what the program writes for the whole input.
-- Assumes nothing.
use mathlib.Core.Path.{◌≡◌, refl, sym, ap, ◌∙◌}
use mathlib.Core.Bool.{Bool, true, false, cond}
use mathlib.Core.List.{List, [], ◌∷◌, ◌++◌, append_assoc}
use Prim.Native.Nat.{ℕ}
use lib.Dec.{eqb}
use Rattle.line.specs.Lines.{newline, last_line, lines_from}
use Rattle.run.specs.Run.{Runner, Fed, after, answers_to, program, end_line, extend_line, feed_byte, feed, feed_pieces, lacked_newline, finish, start, joined, PiecesAgree}

pub feed-append : (r : Runner) (p q : List ℕ) → feed r (p ++ q) ≡ after (feed r p).written (feed (feed r p).runner q)
unfolding feed
feed-append r [] q = refl
feed-append r (c ∷ p) q =
    let f = feed_byte r c in
    ap (after f.written) (feed-append f.runner p q)
    ∙ ap (λ (w : List ℕ). record { runner = (feed (feed f.runner p).runner q).runner; written = w })
    (sym (append_assoc f.written (feed f.runner p).written (feed (feed f.runner p).runner q).written))

pieces-joined : (r : Runner) (ps : List (List ℕ)) → feed_pieces r ps ≡ feed r (joined ps)
unfolding feed_pieces joined feed
pieces-joined r [] = refl
pieces-joined r (p ∷ ps) = ap (after (feed r p).written) (pieces-joined (feed r p).runner ps) ∙ sym (feed-append r p (joined ps))

-- a run from any point writes the answers to the lines that are still to come
pub feed-answers : (r : Runner) (cs : List ℕ) → (feed r cs).written ++ (finish (feed r cs).runner).written ≡ answers_to r.machine (lines_from r.line cs)
unfolding feed lines_from answers_to
feed-answers r [] = last-answer r.line
  where
    last-answer : (l : List ℕ) → (feed (record { machine = r.machine; line = l }) (lacked_newline l)).written ≡ answers_to r.machine (last_line l)
    last-answer [] = refl
    last-answer (c ∷ cs) = refl
feed-answers r (c ∷ cs) = go (eqb c newline) (feed-answers (end_line r).runner cs) (feed-answers (extend_line r c).runner cs)
  where
    rest : Fed → List ℕ
    rest f = (feed f.runner cs).written ++ (finish (feed f.runner cs).runner).written

    go : (b : Bool) → rest (end_line r) ≡ answers_to (end_line r).runner.machine (lines_from [] cs)
        → rest (extend_line r c) ≡ answers_to r.machine (lines_from (r.line ++ (c ∷ [])) cs)
        → let f = cond b (end_line r) (extend_line r c) in
        (f.written ++ (feed f.runner cs).written) ++ (finish (feed f.runner cs).runner).written
        ≡ answers_to r.machine (cond b (r.line ∷ lines_from [] cs) (lines_from (r.line ++ (c ∷ [])) cs))
    go true ended extended =
        append_assoc (end_line r).written (feed (end_line r).runner cs).written (finish (feed (end_line r).runner cs).runner).written
        ∙ ap (λ (w : List ℕ). (end_line r).written ++ w) ended
    go false ended extended = extended

pub pieces-agree : PiecesAgree
unfolding program
pieces-agree pieces =
    rw (pieces-joined start pieces) (feed-answers start (joined pieces))
