-- A walk down to the highest place whose element passes a test, and what holds there.
use mathlib.Core.Path.{◌≡◌, refl, ap, ◌∙◌}
use mathlib.Core.Bool.{Bool, true, false, or-true}
use mathlib.Core.List.{List, [], ◌∷◌}
use Prim.Native.Nat.{ℕ, zero, suc, ◌+◌, ◌-◌, ◌≤◌, ◌<◌}
use native.Mathlib.Nat.{le_of_suc-le-suc, not-suc-le-zero}
use native.Mathlib.Omega.{arith}
use lib.ListN.{length, drop, get_or, length-drop}
use lib.Seq.{get_or-drop}
use Rattle.std.specs.Prelude.{Option, Some, None}
use Rattle.seq.specs.Lists.{any_of}
use Rattle.seq.proofs.Walks.{highest-found}
use Rattle.store.specs.Highest.{highest_place}

module _ {A : Type 0} (d : A) (p : A → Bool) where
  any_at : (xs : List A) (i : ℕ) → i < length xs → p (get_or xs i d) ≡ true → any_of p xs ≡ true
  unfolding any_of
  any_at [] i h e = absurd (not-suc-le-zero h)
  any_at (x ∷ xs) zero h e = rw e
  any_at (x ∷ xs) (suc i) h e = rw (any_at xs i (le_of_suc-le-suc h) e) (or-true (p x))

  -- none passes from place i on, and the element below it does
  pub place-found : (xs : List A) (i : ℕ) → 0 < i → i ≤ length xs → any_of p (drop i xs) ≡ false → p (get_or xs (i - 1) d) ≡ true
      → Some (i - 1) ≡ highest_place p xs
  place-found xs i h l f e = rw (any_at xs (i - 1) (omega arith) e) (ap {B = Option ℕ} Some (highest-found d p xs i h l f e))

  none-at : (xs : List A) → ((k : ℕ) → k < length xs → p (get_or xs k d) ≡ false) → any_of p xs ≡ false
  unfolding any_of
  none-at [] f = refl
  none-at (x ∷ xs) f = rw (f 0 (omega arith), none-at xs (λ k l. f (suc k) (omega arith)))

  -- a place that a search from behind gives
  pub place-told : (xs : List A) (o : Option ℕ)
      → ((i : ℕ) → o ≡ Some i → (i < length xs) × (p (get_or xs i d) ≡ true) × ((k : ℕ) → i < k → k < length xs → p (get_or xs k d) ≡ false))
      → (o ≡ None → (k : ℕ) → k < length xs → p (get_or xs k d) ≡ false) → o ≡ highest_place p xs
  place-told xs (Some i) f g =
      let h = f i refl in
      let same : suc i - 1 ≡ i = omega arith in
      rw same at (place-found xs (suc i) (omega arith) (omega (arith, h.0))
      (none-at (drop (suc i) xs) (λ k l. ap p (get_or-drop (suc i) xs k d) ∙ h.2 (suc i + k) (omega arith) (omega (arith, l, length-drop (suc i) xs)))) (rw same h.1))
  place-told xs None f g = rw (none-at xs (g refl))
