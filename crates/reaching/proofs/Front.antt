-- The keys in front of a slot's, as the code cuts them off, and how many of them stand on a side. Assumes nothing.
use mathlib.Core.Path.{◌≡◌, refl, sym, ap, ◌∙◌}
use mathlib.Core.Bool.{Bool, true, false, cond}
use mathlib.Core.List.Memᴰ
use mathlib.Core.List.{List, [], ◌∷◌, ◌++◌, map, map-append, append_assoc, reverse, reverse-append, reverse-cons, Memᴰ}
use mathlib.Core.Logic.{⊎_elim}
use Prim.Native.Nat.{ℕ, suc, ◌+◌, ◌%◌, ◌≤◌, ◌<◌}
use native.Mathlib.Omega.{arith}
use lib.Dec.{eqb}
use lib.ListN.{length, get_or, take, drop, length-drop}
use lib.Seq.{split_at, take_all, get_or-take, get_or-drop, length-take-le}
use borrow.Author.Tests.{eq-eqb, ne_eqb}
use Rattle.seq.specs.Lists.{count_if}
use Rattle.seq.proofs.Orders.{mem-reverse}
use Rattle.ordering.specs.Order.{Key}
use Rattle.ordering.specs.InNumbers.{key_in, keys_in}
use Rattle.reasons.specs.Reasons.{in_front}

module _ (slot : ℕ) where
  front-all : (xs : List Key) → ((h : Key) → Memᴰ h xs → h.slot ≡ slot → ⊥) → in_front slot xs ≡ xs
  unfolding in_front
  front-all [] none = refl
  front-all (x ∷ xs) none =
      rw (ne_eqb x.slot slot (none x (Memᴰ.head refl)))
      (ap {B = List Key} (λ l. x ∷ l) (front-all xs (λ h m. none h (Memᴰ.tail m))))

  front-split : (xs : List Key) (k : Key) (ys : List Key) → ((h : Key) → Memᴰ h xs → h.slot ≡ slot → ⊥) → k.slot ≡ slot
      → in_front slot (xs ++ (k ∷ ys)) ≡ xs
  unfolding in_front
  front-split [] k ys none e = rw (eq-eqb k.slot slot e) refl
  front-split (x ∷ xs) k ys none e =
      rw (ne_eqb x.slot slot (none x (Memᴰ.head refl)))
      (ap {B = List Key} (λ l. x ∷ l) (front-split xs k ys (λ h m. none h (Memᴰ.tail m)) e))

  -- none of these keys is the slot's
  none-in : (ns : List ℕ) → ((i : ℕ) → i < length ns → get_or ns i 0 % 256 ≡ slot → ⊥) → (h : Key) → Memᴰ h (keys_in ns) → h.slot ≡ slot → ⊥
  none-in [] none h m e = Memᴰ.not-nil m
  none-in (n ∷ ns) none h m e =
      ⊎_elim (λ q. none 0 (omega arith) (ap (λ (k : Key). k.slot) (sym q) ∙ e))
      (λ q. none-in ns (λ i l. none (suc i) (omega arith)) h q e) (Memᴰ.cases_cons m)

  module _ (ns : List ℕ) where
    pub all-down : ((i : ℕ) → i < length ns → get_or ns i 0 % 256 ≡ slot → ⊥) → keys_in ns ≡ in_front slot (keys_in ns)
    all-down none = sym (front-all (keys_in ns) (none-in ns none))

    pub all-up : ((i : ℕ) → i < length ns → get_or ns i 0 % 256 ≡ slot → ⊥) → reverse (keys_in ns) ≡ in_front slot (reverse (keys_in ns))
    all-up none = sym (front-all (reverse (keys_in ns)) (λ h m. none-in ns none h (mem-reverse (keys_in ns) m)))

    module _ (at : ℕ) (l : at < length ns) (e : get_or ns at 0 % 256 ≡ slot) where
      split : keys_in ns ≡ keys_in (take at ns) ++ (key_in (get_or ns at 0) ∷ keys_in (drop (suc at) ns))
      split = ap (map key_in) (split_at ns at 0 l) ∙ map-append key_in (take at ns) (get_or ns at 0 ∷ drop (suc at) ns)

      pub cut-down : ((i : ℕ) → i < at → get_or ns i 0 % 256 ≡ slot → ⊥) → keys_in (take at ns) ≡ in_front slot (keys_in ns)
      cut-down none =
          sym
          (ap (in_front slot) split
          ∙ front-split (keys_in (take at ns)) (key_in (get_or ns at 0)) (keys_in (drop (suc at) ns))
          (none-in (take at ns)
          (λ i m q. let n = length-take-le at ns (omega arith) in none i (omega arith) (ap (λ (k : ℕ). k % 256) (sym (get_or-take at ns i 0 (omega arith))) ∙ q)))
          e)

      pub cut-up : ((i : ℕ) → at < i → i < length ns → get_or ns i 0 % 256 ≡ slot → ⊥)
          → (m : ℕ) → length (drop (suc at) ns) ≤ m → reverse (keys_in (take m (drop (suc at) ns))) ≡ in_front slot (reverse (keys_in ns))
      cut-up none m few =
          ap (λ (l : List ℕ). reverse (keys_in l)) (take_all m (drop (suc at) ns) few)
          ∙ sym
          (ap (λ (ks : List Key). in_front slot (reverse ks)) split
          ∙ ap (in_front slot)
          (reverse-append (keys_in (take at ns)) (key_in (get_or ns at 0) ∷ keys_in (drop (suc at) ns))
          ∙ ap (λ (ks : List Key). ks ++ reverse (keys_in (take at ns))) (reverse-cons (key_in (get_or ns at 0)) (keys_in (drop (suc at) ns)))
          ∙ append_assoc (reverse (keys_in (drop (suc at) ns))) (key_in (get_or ns at 0) ∷ []) (reverse (keys_in (take at ns))))
          ∙ front-split (reverse (keys_in (drop (suc at) ns))) (key_in (get_or ns at 0)) (reverse (keys_in (take at ns)))
          (λ h m.
          none-in (drop (suc at) ns)
          (λ i q r. let n = length-drop (suc at) ns in none (suc at + i) (omega arith) (omega arith) (ap (λ (k : ℕ). k % 256) (sym (get_or-drop (suc at) ns i 0)) ∙ r))
          h (mem-reverse (keys_in (drop (suc at) ns)) m))
          e)

-- As many of them or fewer pass a test.
pub count-front : (p : Key → Bool) (slot : ℕ) (ks : List Key) → count_if p (in_front slot ks) ≤ count_if p ks
unfolding in_front count_if
count-front p slot [] = omega arith
count-front p slot (k ∷ ks) = pick (eqb k.slot slot) (count-front p slot ks)
  where
    both : (c : Bool) → count_if p (in_front slot ks) ≤ count_if p ks
        → cond c (suc (count_if p (in_front slot ks))) (count_if p (in_front slot ks)) ≤ cond c (suc (count_if p ks)) (count_if p ks)
    both true l = omega arith
    both false l = l

    pick : (b : Bool) → count_if p (in_front slot ks) ≤ count_if p ks → count_if p (cond b [] (k ∷ in_front slot ks)) ≤ count_if p (k ∷ ks)
    pick true l = omega arith
    pick false l = both (p k) l
