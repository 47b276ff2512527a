-- The words of a line are the pieces between its spaces, up to the comment, that are not empty.
-- Assumes nothing.
use Prim.Native.Nat.{ℕ, ◌+◌, ◌<◌, ◌≤◌}
use mathlib.Core.Path.{◌≡◌, refl, sym, ap, ◌∙◌}
use mathlib.Core.Bool.{Bool, true, false, cond, not}
use mathlib.Core.List.{List, [], ◌∷◌, ◌++◌, append_assoc, append-nil}
use lib.ListN.{length, take, drop, get_or, drop_of_length-le}
use native.Mathlib.Numerals.{add-one}
use native.Mathlib.Nat.{add_comm}
use Rattle.std.specs.List.{slice_split, onto_first, before_first}
use Rattle.std.specs.Prelude.{None, Some, Result, Ok, Err, nat_lt}
use Rattle.std.specs.List.{position, position_or_len}
use Rattle.std.proofs.lemmas.Bool.Decides.{nat_tests}
use native.Mathlib.Omega.{arith}
use Rattle.std.proofs.lemmas.List.{take_all, at_drop_more}
use Rattle.commands.specs.declared.draft.Draft.{Draft}
use Rattle.commands.specs.declared.Expected.{Expected}
use Rattle.commands.specs.Drafts.{step, finished}
use Rattle.commands.specs.Commands.{and_then, step_over, read_command}
use Rattle.commands.specs.Words.{is_space, is_hash, last_word, words_from}

unfoldable pub kept : List (List ℕ) → List (List ℕ)
kept [] = []
kept (w ∷ ws) = last_word w ++ kept ws

onto : List ℕ → List (List ℕ) → List (List ℕ)
onto word [] = word ∷ []
onto word (part ∷ parts) = (word ++ part) ∷ parts

kept-onto-none : (ps : List (List ℕ)) → kept (onto [] ps) ≡ kept ps
unfolding kept onto
kept-onto-none [] = refl
kept-onto-none (p ∷ ps) = refl

onto-onto : (word : List ℕ) (c : ℕ) (ps : List (List ℕ)) → onto word (onto_first c ps) ≡ onto (word ++ (c ∷ [])) ps
unfolding onto
onto-onto word c [] = refl
onto-onto word c (p ∷ ps) = ap (λ w. w ∷ ps) (sym (append_assoc word (c ∷ []) p))

last-piece : (word : List ℕ) → last_word word ≡ kept (onto word ([] ∷ []))
unfolding kept onto
last-piece word = rw (append-nil word, append-nil (last_word word))

abbrev pub pieces_of : List ℕ → List (List ℕ)
pieces_of line = slice_split is_space (before_first is_hash line)

abbrev more_pieces : Bool → Bool → ℕ → List (List ℕ) → List (List ℕ)
more_pieces hash space c ps = cond hash ([] ∷ []) (cond space ([] ∷ ps) (onto_first c ps))

pieces-cons : (c : ℕ) (cs : List ℕ) → pieces_of (c ∷ cs) ≡ more_pieces (is_hash c) (is_space c) c (pieces_of cs)
pieces-cons c cs = by (is_hash c)
  where
    by : (a : Bool) → slice_split is_space (take (cond (not a) (1 + position_or_len is_hash cs) 0) (c ∷ cs)) ≡ more_pieces a (is_space c) c (pieces_of cs)
    by true = refl
    by false = rw (add_comm 1 (position_or_len is_hash cs), add-one) refl

words-pieces : (cs word : List ℕ) → words_from word cs ≡ kept (onto word (pieces_of cs))
unfolding words_from kept onto
words-pieces [] word = last-piece word
words-pieces (c ∷ cs) word = rw (pieces-cons c cs) (by (is_hash c) (is_space c) (words-pieces cs []) (words-pieces cs (word ++ (c ∷ []))))
  where
    by : (a b : Bool) → words_from [] cs ≡ kept (onto [] (pieces_of cs)) → words_from (word ++ (c ∷ [])) cs ≡ kept (onto (word ++ (c ∷ [])) (pieces_of cs))
        → cond a (last_word word) (cond b (last_word word ++ words_from [] cs) (words_from (word ++ (c ∷ [])) cs))
        ≡ kept (onto word (more_pieces a b c (pieces_of cs)))
    by true b p q = last-piece word
    by false true p q =
        ap (λ w. last_word word ++ w) (p ∙ kept-onto-none (pieces_of cs)) ∙ ap (λ w. last_word w ++ kept (pieces_of cs)) (sym (append-nil word))
    by false false p q = q ∙ ap kept (sym (onto-onto word c (pieces_of cs)))

pub words-split : (line : List ℕ) → kept (pieces_of line) ≡ words_from [] line
words-split line = sym (kept-onto-none (pieces_of line)) ∙ sym (words-pieces line [])

-- What `position` finds is where the comment begins.
pub ends-before : (line : List ℕ) (end : ℕ) → position is_hash line ≡ Some end → take end line ≡ before_first is_hash line
ends-before line end e = by (nat_lt (position_or_len is_hash line) (length line)) e
  where
    by : (b : Bool) → cond b (Some (position_or_len is_hash line)) None ≡ Some end → take end line ≡ before_first is_hash line
    by true f = let g : position_or_len is_hash line ≡ end = cc in rw g
    by false f = let g : ◌≡◌ {A = ℕ} 0 1 = cc in absurd (let h : 0 ≡ 1 = g in omega (arith, h))

pub no-comment : (line : List ℕ) → position is_hash line ≡ None → line ≡ before_first is_hash line
no-comment line e = by (nat_lt (position_or_len is_hash line) (length line)) refl e
  where
    by : (b : Bool) → nat_lt (position_or_len is_hash line) (length line) ≡ b → cond b (Some (position_or_len is_hash line)) None ≡ None
        → line ≡ before_first is_hash line
    by true g f = absurd (let z : ◌≡◌ {A = ℕ} 0 1 = cc in omega (arith, z))
    by false g f = sym (take_all (position_or_len is_hash line) line (grind (arith, nat_tests)))

-- ---- a piece at a time

step-none : (d : Draft) (piece : List ℕ) (ps : List (List ℕ)) → length piece ≡ 0 → step_over d (kept (piece ∷ ps)) ≡ step_over d (kept ps)
unfolding kept
step-none d [] ps e = refl
step-none d (c ∷ cs) ps e = absurd (omega (arith, e))

step-some : (d : Draft) (piece : List ℕ) (ps : List (List ℕ)) → 0 < length piece
    → step_over d (kept (piece ∷ ps)) ≡ and_then (step d piece) (λ e. step_over e (kept ps))
unfolding kept step_over
step-some d [] ps h = absurd (omega (arith, h))
step-some d (c ∷ cs) ps h = refl

-- The piece at a place, and those behind it.
pub at-piece : (ps : List (List ℕ)) (n : ℕ) (piece : List ℕ) → n < length ps → piece ≡ get_or ps n piece → drop n ps ≡ piece ∷ drop (n + 1) ps
at-piece ps n piece h e = at_drop_more (λ l. l) ps n piece h ∙ ap (λ p. p ∷ drop (n + 1) ps) (sym e)

module _ (d : Draft) (ps : List (List ℕ)) (n : ℕ) (piece : List ℕ) (h : n < length ps) (e : piece ≡ get_or ps n piece) where
  pub empty-piece : length piece ≡ 0 → step_over d (kept (drop n ps)) ≡ step_over d (kept (drop (n + 1) ps))
  empty-piece z = ap (λ l. step_over d (kept l)) (at-piece ps n piece h e) ∙ step-none d piece (drop (n + 1) ps) z

  pub full-piece : 0 < length piece → step_over d (kept (drop n ps)) ≡ and_then (step d piece) (λ f. step_over f (kept (drop (n + 1) ps)))
  full-piece z = ap (λ l. step_over d (kept l)) (at-piece ps n piece h e) ∙ step-some d piece (drop (n + 1) ps) z

-- ---- what the words that are left come to, after so many pieces

module _ (line : List ℕ) (d : Draft) (n : ℕ)
    (so_far : step_over d (kept (drop n (pieces_of line))) ≡ step_over Draft.Command (words_from [] line)) where
  pub all-read : length (pieces_of line) ≤ n → finished d ≡ read_command line
  unfolding read_command step_over kept
  all-read e =
      let none : drop n (pieces_of line) ≡ [] = drop_of_length-le (pieces_of line) {i = n} e in
      ap (λ r. and_then r finished) (ap (λ l. step_over d (kept l)) (sym none) ∙ so_far)

  module _ (piece : List ℕ) (at : (n < length (pieces_of line)) × (piece ≡ get_or (pieces_of line) n piece)) where
    abbrev left : Draft → Result Draft Expected
    left f = step_over f (kept (drop (n + 1) (pieces_of line)))

    pub piece-skipped : length piece ≡ 0 → left d ≡ step_over Draft.Command (words_from [] line)
    piece-skipped z = sym (empty-piece d (pieces_of line) n piece at.0 at.1 z) ∙ so_far

    pub piece-taken : (f : Draft) → 0 < length piece → step d piece ≡ Ok f → left f ≡ step_over Draft.Command (words_from [] line)
    piece-taken f z ok = ap (λ r. and_then r left) (sym ok) ∙ sym (full-piece d (pieces_of line) n piece at.0 at.1 z) ∙ so_far

    pub piece-refused : (e : Expected) → 0 < length piece → step d piece ≡ Err e → Err e ≡ read_command line
    unfolding read_command
    piece-refused e z err =
        ap (λ r. and_then r finished)
        (ap (λ r. and_then r left) (sym err) ∙ sym (full-piece d (pieces_of line) n piece at.0 at.1 z) ∙ so_far)
