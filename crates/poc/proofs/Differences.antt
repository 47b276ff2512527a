-- Whole numbers as differences of natural ones: `sub_ℕ a b` is a - b. Assumes nothing.
use mathlib.Core.Path.{◌≡◌, refl, sym, ap, ◌∙◌}
use mathlib.Core.Logic.{⊎_elim}
use Prim.Native.Nat.{ℕ, zero, suc, ◌+◌, ◌-◌, ◌≤◌, ◌<◌}
use native.Mathlib.Omega.{arith}
use lib.IntN.{ℤ, pos, negsuc, sub_ℕ, nat_abs, ◌+ℤ◌, ◌-ℤ◌, +ℤ-neg_ℤ_cancel}
use borrow.Author.Tests.{lt-ltb, le-ltb}
use Rattle.seq.proofs.Tests.{lt-or-ge}

pub sub-pos : (a b : ℕ) → b ≤ a → sub_ℕ a b ≡ pos (a - b)
sub-pos a b h = rw (le-ltb a b h)

pub sub-neg : (a b : ℕ) → a < b → sub_ℕ a b ≡ negsuc (b - suc a)
sub-neg a b h = rw (lt-ltb a b h)

-- a - b = c - d where a + d = c + b
pub sub_same : (a b c d : ℕ) → a + d ≡ c + b → sub_ℕ a b ≡ sub_ℕ c d
sub_same a b c d e = ⊎_elim below above (lt-or-ge a b)
  where
    below : a < b → sub_ℕ a b ≡ sub_ℕ c d
    below h =
        let k : c < d = omega arith in
        let q : b - suc a ≡ d - suc c = omega arith in
        sub-neg a b h ∙ ap negsuc q ∙ sym (sub-neg c d k)

    above : b ≤ a → sub_ℕ a b ≡ sub_ℕ c d
    above h =
        let k : d ≤ c = omega arith in
        let q : a - b ≡ c - d = omega arith in
        sub-pos a b h ∙ ap pos q ∙ sym (sub-pos c d k)

pub sub-zero : (a : ℕ) → sub_ℕ a 0 ≡ pos a
sub-zero a = sub-pos a 0 (omega arith) ∙ ap pos (omega arith)

pub minus : (a b : ℕ) → pos a -ℤ pos b ≡ sub_ℕ a b
minus a zero = let e : a + 0 ≡ a = omega arith in ap pos e ∙ sym (sub-zero a)
minus a (suc b) = refl

pub sub-add : (a b k : ℕ) → sub_ℕ a b +ℤ pos k ≡ sub_ℕ (a + k) b
sub-add a b k = ⊎_elim below above (lt-or-ge a b)
  where
    below : a < b → sub_ℕ a b +ℤ pos k ≡ sub_ℕ (a + k) b
    below h = rw (sub-neg a b h) (sub_same k (suc (b - suc a)) (a + k) b (omega arith))

    above : b ≤ a → sub_ℕ a b +ℤ pos k ≡ sub_ℕ (a + k) b
    above h =
        let e : a - b + k ≡ a + k - b = omega arith in
        rw (sub-pos a b h) (ap pos e ∙ sym (sub-pos (a + k) b (omega arith)))

-- what was added is taken away again
pub sub_of : (n : ℤ) (k p : ℕ) → n +ℤ pos k ≡ pos p → n ≡ sub_ℕ p k
sub_of n k p e = sym (+ℤ-neg_ℤ_cancel n (pos k)) ∙ ap (λ z. z -ℤ pos k) e ∙ minus p k

pub pos_inj : (a b : ℕ) → pos a ≡ pos b → a ≡ b
pos_inj a b e = ap nat_abs e

pub sub_inj : (a b c : ℕ) → sub_ℕ a c ≡ sub_ℕ b c → a ≡ b
sub_inj a b c e = pos_inj a b (sym (whole a) ∙ ap (λ z. z +ℤ pos c) e ∙ whole b)
  where
    whole : (a : ℕ) → sub_ℕ a c +ℤ pos c ≡ pos a
    whole a = sub-add a c c ∙ sub_same (a + c) c a 0 (omega arith) ∙ sub-zero a
