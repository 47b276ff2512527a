-- How many pass a test: of those selected; and what counts say of members.
-- Assumes nothing.
use Prim.Native.Nat.{ℕ, suc}
use mathlib.Core.Path.{◌≡◌, refl}
use mathlib.Core.Bool.{Bool, true, false, cond, ◌&&◌}
use mathlib.Core.Logic.{⊎_elim}
use mathlib.Core.List.Memᴰ
use mathlib.Core.List.{List, [], ◌∷◌, Memᴰ}
use native.Mathlib.Omega.{arith}
use Rattle.seq.specs.Lists.{count_if, select, Reordered}
use Rattle.seq.proofs.Tests.{count-some, count_none}
use Rattle.seq.proofs.Members.{find-mem}

-- a decision as a test
abbrev says : {P : Type 0} → Dec P → Bool
says (yes e) = true
says (no f) = false

says-yes : {P : Type 0} (d : Dec P) → P → says d ≡ true
says-yes (yes e) p = refl
says-yes (no f) p = absurd (f p)

says-no : {P : Type 0} (d : Dec P) → (P → ⊥) → says d ≡ false
says-no (yes e) g = absurd (g e)
says-no (no f) g = refl

module _ {A : Type 0} where
  -- of the elements that pass p, those that pass q
  pub count-select : (p q : A → Bool) (xs : List A) → count_if q (select p xs) ≡ count_if (λ x. p x && q x) xs
  unfolding count_if select
  count-select p q [] = refl
  count-select p q (x ∷ xs) = pick (p x) (count-select p q xs)
    where
      rest : ℕ
      rest = count_if (λ y. p y && q y) xs

      pick : (b : Bool) → count_if q (select p xs) ≡ rest → count_if q (cond b (x ∷ select p xs) (select p xs)) ≡ cond (b && q x) (suc rest) rest
      pick true e = rw e
      pick false e = e

  -- what stands in a list stands in it in another order too
  pub reordered-mem : Discrete A → {x : A} (xs ys : List A) → Reordered xs ys → Memᴰ x xs → Memᴰ x ys
  reordered-mem same {x} xs ys r m = ⊎_elim (λ n. n) (λ f. absurd (missing f)) (find-mem same x ys)
    where
      test : A → Bool
      test y = says (same x y)

      missing : (Memᴰ x ys → ⊥) → ⊥
      missing f =
          let h = count-some test xs m (says-yes (same x x) refl) in
          let z = count_none test ys (λ y n. says-no (same x y) (λ e. f (Memᴰ.cast e n))) in
          let e = r test in
          omega arith
