-- Words without a space or a `#` in them, with a space between, are the words of their line.
-- Assumes nothing.
use Prim.Native.Nat.{ℕ, ◌+◌, ◌%◌, ◌^◌, ◌<◌}
use native.Mathlib.Omega.{arith}
use mathlib.Core.Path.{◌≡◌, refl, sym, ap, ◌∙◌}
use mathlib.Core.Bool.{Bool, true, false, not, ◌&&◌}
use mathlib.Core.Bool as Bool
use mathlib.Core.List.{List, [], ◌∷◌, ◌++◌, append_assoc, append-nil}
use borrow.Author.Tests.{ne_eqb}
use Rattle.seq.specs.Lists.{all_of}
use Rattle.seq.proofs.Tests.{and_left, and_right}
use Rattle.std.proofs.lemmas.Fmt.{decimal_by_steps}
use Rattle.phrases.specs.Phrases.{decimal}
use Rattle.commands.specs.Words.{is_space, is_hash, last_word, words_from}
use Rattle.spelling.specs.Spelling.{spaced}

abbrev pub is_plain : ℕ → Bool
is_plain c = not (is_hash c) && not (is_space c)

-- A word of a line: some characters, and none that ends it.
pub record Plain (w : List ℕ) : Type 0 where
  pub first : ℕ
  pub rest : List ℕ
  pub parts : w ≡ first ∷ rest
  pub plain : all_of is_plain w ≡ true

pub data AllPlain : List (List ℕ) → Type 0 where
  none : AllPlain []
  more : {w : List ℕ} {ws : List (List ℕ)} → Plain w → AllPlain ws → AllPlain (w ∷ ws)

not-true : (b : Bool) → not b ≡ true → b ≡ false
not-true true e = absurd (Bool.false≢true e)
not-true false e = refl

taken_in : (held w rest : List ℕ) → all_of is_plain w ≡ true → words_from held (w ++ rest) ≡ words_from (held ++ w) rest
unfolding words_from all_of
taken_in held [] rest e = ap (λ (h : List ℕ). words_from h rest) (sym (append-nil held))
taken_in held (c ∷ w) rest e =
    let this = and_left (is_plain c) (all_of is_plain w) e in
    let hash = not-true (is_hash c) (and_left (not (is_hash c)) (not (is_space c)) this) in
    let space = not-true (is_space c) (and_right (not (is_hash c)) (not (is_space c)) this) in
    rw (hash, space)
    (taken_in (held ++ (c ∷ [])) w rest (and_right (is_plain c) (all_of is_plain w) e) ∙ ap (λ (h : List ℕ). words_from h rest) (append_assoc held (c ∷ []) w))

last-plain : (w : List ℕ) → Plain w → last_word w ≡ w ∷ []
last-plain w p = rw p.parts

pub words-spaced : (ws : List (List ℕ)) → AllPlain ws → words_from [] (spaced ws) ≡ ws
unfolding words_from
words-spaced [] none = refl
words-spaced (w ∷ []) (more p none) =
    ap (words_from []) (sym (append-nil w)) ∙ taken_in [] w [] p.plain ∙ last-plain w p
words-spaced (w ∷ v ∷ ws) (more p ps) =
    taken_in [] w (32 ∷ spaced (v ∷ ws)) p.plain
    ∙ ap (λ (l : List (List ℕ)). l ++ words_from [] (spaced (v ∷ ws))) (last-plain w p)
    ∙ ap (λ (l : List (List ℕ)). w ∷ l) (words-spaced (v ∷ ws) ps)

all_append : (p : ℕ → Bool) (xs ys : List ℕ) → all_of p xs ≡ true → all_of p ys ≡ true → all_of p (xs ++ ys) ≡ true
unfolding all_of
all_append p [] ys e f = f
all_append p (x ∷ xs) ys e f = rw (and_left (p x) (all_of p xs) e, all_append p xs ys (and_right (p x) (all_of p xs) e) f)

plain-digit : (d : ℕ) → d < 10 → is_plain (48 + d) ≡ true
plain-digit d h =
    rw (
      ne_eqb (48 + d) 35 (λ e. omega arith),
      ne_eqb (48 + d) 32 (λ e. omega arith),
      ne_eqb (48 + d) 9 (λ e. omega arith),
      ne_eqb (48 + d) 13 (λ e. omega arith),
    )

-- A list that ends with an element begins with one.
snoc-begins : (xs : List ℕ) (x : ℕ) → all_of is_plain (xs ++ (x ∷ [])) ≡ true → Plain (xs ++ (x ∷ []))
snoc-begins [] x e = record { first = x; rest = []; parts = refl; plain = e }
snoc-begins (y ∷ xs) x e = record { first = y; rest = xs ++ (x ∷ []); parts = refl; plain = e }

pub plain-decimal : (n : ℕ) → n < 2 ^ 64 → Plain (decimal n)
unfolding all_of
plain-decimal n h =
    decimal_by_steps (λ m word. Plain word) (λ m l. record { first = 48 + m; rest = []; parts = refl; plain = rw (plain-digit m l) })
    (λ m word l p. snoc-begins word (48 + m % 10) (all_append is_plain word ((48 + m % 10) ∷ []) p.plain (rw (plain-digit (m % 10) (omega arith)))))
    n h
