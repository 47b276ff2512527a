-- The first element that passes a test, in a list and in what a map makes of it.
use mathlib.Core.Path.{◌≡◌, refl, sym, ap, ◌∙◌}
use mathlib.Core.Bool.{Bool, true, false, cond, not}
use mathlib.Core.List.{List, [], ◌∷◌, map}
use Prim.Native.Nat.{ℕ, suc, ◌+◌, ◌≤◌, ◌<◌}
use native.Mathlib.Omega.{arith}
use borrow.Author.Tests.{ltb-true, ltb-false, lt-ltb, le-ltb}
use lib.Dec.{ltb}
use lib.ListN.{length, length-map}
use Rattle.std.specs.Prelude.{Option, Some, None}
use Rattle.std.specs.List.{position, position_or_len, list_any, count_by}
use Rattle.std.proofs.lemmas.List.Sums.{sum_by-cons}
use Rattle.std.proofs.lemmas.List.{map-id}
use Rattle.seq.specs.Lists.{any_of, lowest, count_if, highest}
use Rattle.seq.proofs.Walks.{found-any}

hit : (b : Bool) (n i : ℕ) → cond b (Some n) None ≡ Some i → (b ≡ true) × (n ≡ i)
hit true n i e = (refl, cc)
hit false n i e = cc

miss : (b : Bool) (n : ℕ) → cond b (Some n) None ≡ None → b ≡ false
miss true n e = cc
miss false n e = refl

module _ {A B : Type 0} (f : A → B) (p : B → Bool) (q : A → Bool) (h : (x : A) → p (f x) ≡ q x) where
  lowest-through : (xs : List A) → lowest p (map f xs) ≡ position_or_len q xs
  unfolding lowest
  lowest-through [] = refl
  lowest-through (x ∷ xs) = rw (h x, lowest-through xs) (by (q x) (position_or_len q xs))
    where
      by : (b : Bool) (n : ℕ) → cond b 0 (suc n) ≡ cond (not b) (1 + n) 0
      by true n = refl
      by false n = omega arith

  pub record Found (xs : List A) (i : ℕ) : Type 0 where
    pub at : lowest p (map f xs) ≡ i
    pub below : i < length xs
    pub some : any_of p (map f xs) ≡ true

  pub found : (xs : List A) (i : ℕ) → position q xs ≡ Some i → Found xs i
  found xs i e =
      let t = hit (ltb (position_or_len q xs) (length xs)) (position_or_len q xs) i e in
      let l : position_or_len q xs < length xs = ltb-true _ _ t.0 in
      record {
        at = lowest-through xs ∙ t.1;
        below = omega (arith, t.1);
        some = found-any p (map f xs) (omega (arith, lowest-through xs, length-map xs f));
      }

  pub place-through : (xs : List A) (i : ℕ) → i < length xs → lowest p (map f xs) ≡ i → position q xs ≡ Some i
  place-through xs i h e =
      let l : position_or_len q xs < length xs = omega (arith, lowest-through xs) in
      rw (lt-ltb (position_or_len q xs) (length xs) l) (ap {B = Option ℕ} Some (sym (lowest-through xs) ∙ e))

  pub any-through : (xs : List A) → any_of p (map f xs) ≡ list_any q xs
  unfolding any_of
  any-through [] = refl
  any-through (x ∷ xs) = rw (h x, any-through xs)

  pub highest-through : (xs : List A) → highest p (map f xs) ≡ highest q xs
  unfolding highest any_of
  highest-through [] = refl
  highest-through (x ∷ xs) = rw (any-same xs, highest-through xs)
    where
      any-same : (ys : List A) → any_of p (map f ys) ≡ any_of q ys
      any-same [] = refl
      any-same (y ∷ ys) = rw (h y, any-same ys)

  pub count-through : (xs : List A) → count_if p (map f xs) ≡ count_if q xs
  unfolding count_if
  count-through [] = refl
  count-through (x ∷ xs) = rw (h x, count-through xs)

pub count-by : {A : Type 0} (q : A → Bool) (xs : List A) → count_by q xs ≡ count_if q xs
unfolding count_if
count-by q [] = refl
count-by q (x ∷ xs) = sum_by-cons (λ y. cond (q y) 1 0) x xs ∙ pick (q x) (count-by q xs)
  where
    pick : {m n : ℕ} (b : Bool) → m ≡ n → cond b 1 0 + m ≡ cond b (suc n) n
    pick true e = omega arith
    pick false e = omega arith

-- a search in the list itself
module _ {A : Type 0} (q : A → Bool) (xs : List A) where
  same : lowest q xs ≡ position_or_len q xs
  same = ap (lowest q) (sym (map-id xs)) ∙ lowest-through (λ x. x) q q (λ x. refl) xs

  pub found-here : (i : ℕ) → position q xs ≡ Some i → (lowest q xs ≡ i) × (i < length xs)
  found-here i e =
      let t = hit (ltb (position_or_len q xs) (length xs)) (position_or_len q xs) i e in
      let l : position_or_len q xs < length xs = ltb-true _ _ t.0 in
      (same ∙ t.1, omega (arith, t.1))

  pub none-here : position q xs ≡ None → length xs ≤ lowest q xs
  none-here e =
      let t = miss (ltb (position_or_len q xs) (length xs)) (position_or_len q xs) e in
      let l : length xs ≤ position_or_len q xs = ltb-false _ _ t in
      omega (arith, same)

  pub place-here : (i : ℕ) → i < length xs → lowest q xs ≡ i → position q xs ≡ Some i
  place-here i h e = place-through (λ x. x) q q (λ x. refl) xs i h (ap (lowest q) (map-id xs) ∙ e)

  pub no-place : length xs ≤ lowest q xs → position q xs ≡ None
  no-place h =
      let l : length xs ≤ position_or_len q xs = omega (arith, same) in
      rw (le-ltb (position_or_len q xs) (length xs) l) refl
