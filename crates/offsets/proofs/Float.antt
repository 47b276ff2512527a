-- Operations on floats that lose nothing: each takes the operands' values and one equation of natural numbers, cross-multiplied, to the result's value.
-- The values are fractions over powers of two, with few enough digits for the format.
-- Assumes nothing.
use mathlib.Core.Path.{◌≡◌, refl, sym, ap, ap₂, ◌∙◌, subst}
use Prim.Native.Nat.{ℕ, suc, ◌+◌, ◌-◌, ◌*◌, ◌^◌, ◌≤◌, ◌<◌}
use native.Mathlib.Nat.{lt_of_lt_of_le, mul-pos, mul_assoc, mul_comm, mul_left_comm, mul-mul-mul_comm, add-mul, mul-sub}
use native.Mathlib.Nat.{eq_of_mul-eq-mul_right, lt_of_mul-lt-mul_right, mul-lt-mul_of_pos_right}
use native.Mathlib.Omega.{arith}
use mathlib.Core.Bool.{Bool, true, false}
use lib.Dec.{T, lt→ltb}
use lib.IntN.{ℤ, pos, negsuc}
use lib.Pow.{pow-add, pow_pos, pow_mono, shl_lt}
use lib.Ieee.{Float, nan, inf, fin, Format, prec, emax, low, unlike, up, down, round, sum, add, sub, mul, div, of_int, to_signed, in_signed, in_float, fits}
use lib.Ieee.Digits.{back}
use lib.Ieee.Fits.{reach, down_pos, of_int-fits}
use lib.Ieee.Exact.{HasValue, round_exact}
use lib.Ieee.Scale.{round_same}
use lib.Ieee.Positive.{first_pos}
use lib.Ieee.Back.{round_whole, negative_back, whole_unique}
use borrow.Author.Tests.{lt-ltb, ne_eqb}

-- x is finite, has the sign s, and is a / 2^k in size
pub record Value (x : Float) (s : Bool) (a k : ℕ) : Type 0 where
  pub is : HasValue x s a (2 ^ k)

-- the format counts in steps of 2^-k up to u / 2^k
pub record Held (f : Format) (u k : ℕ) : Type 0 where
  pub digits : u < 2 ^ prec f
  pub fine : k ≤ low f

-- ---- rounding

room : (p l e k : ℕ) → p ≤ suc e → p + (l - k) ≤ l + suc e
room p l e k h = omega arith

own : (f : Format) (s : Bool) (u k : ℕ) → Held f u k → HasValue (round f s u (2 ^ k)) s u (2 ^ k)
own f s u k h =
    round_exact f s u (2 ^ k) u (low f - k) (pow_pos k) h.digits
    (lt_of_lt_of_le (shl_lt (prec f) (low f - k) h.digits) (pow_mono (room (prec f) (low f) (emax f) k (reach f))))
    (ap (λ (x : ℕ). u * 2 ^ x) (sym (back (low f) k h.fine)) ∙ ap (λ (x : ℕ). u * x) (pow-add 2 (low f - k) k) ∙ sym (mul_assoc u (2 ^ (low f - k)) (2 ^ k)))

-- N / P is M / Q, and M / Q is u / 2^k
cross : (N P M Q K u : ℕ) → 0 < Q → N * Q ≡ M * P → M * K ≡ u * Q → N * K ≡ u * P
cross N P M Q K u h p q =
    eq_of_mul-eq-mul_right Q h (N * K) (u * P)
    (swap N K Q ∙ ap (λ (x : ℕ). x * K) p ∙ swap M P K ∙ ap (λ (x : ℕ). x * P) q ∙ swap u Q P)
  where
    swap : (x y z : ℕ) → x * y * z ≡ x * z * y
    swap x y z = mul_assoc x y z ∙ ap (λ (w : ℕ). x * w) (mul_comm y z) ∙ sym (mul_assoc x z y)

rounded : (f : Format) (s : Bool) (N P M Q u k : ℕ) → 0 < P → 0 < Q → N * Q ≡ M * P → M * 2 ^ k ≡ u * Q → Held f u k → Value (round f s N P) s u k
rounded f s N P M Q u k P0 Q0 p q h =
    record {
      is = subst (λ (x : Float). HasValue x s u (2 ^ k)) (sym (round_same f s N P u (2 ^ k) P0 (pow_pos k) (cross N P M Q (2 ^ k) u Q0 p q))) (own f s u k h);
    }

-- ---- an operand, taken apart

pub record Parts (x : Float) (s : Bool) (a k : ℕ) : Type 0 where
  pub m : ℕ
  pub e : ℤ
  pub is : x ≡ fin s m e
  pub size : m * up e * 2 ^ k ≡ a * down e

parts : {x : Float} {s : Bool} {a k : ℕ} → Value x s a k → Parts x s a k
parts {x} {s} {a} {k} v = go x v.is
  where
    go : (x : Float) → HasValue x s a (2 ^ k) → Parts x s a k
    go nan v = absurd v
    go (inf t) v = absurd v
    go (fin t m e) v = record { m = m; e = e; is = rw v.0; size = v.1 }

-- ---- the operations

-- X / D is a / I and Y / E is b / J
module _ (X Y D E a b I J : ℕ) (p : X * I ≡ a * D) (q : Y * J ≡ b * E) where
  product : X * Y * (I * J) ≡ a * b * (D * E)
  product = mul-mul-mul_comm X Y I J ∙ ap₂ (λ (x y : ℕ). x * y) p q ∙ mul-mul-mul_comm a D b E

  quotient : X * E * (b * I) ≡ a * J * (Y * D)
  quotient =
      let l : X * E * (b * I) ≡ X * I * (b * E) = simp (mul_assoc, mul_comm, mul_left_comm) in
      let r : a * D * (Y * J) ≡ a * J * (Y * D) = simp (mul_assoc, mul_comm, mul_left_comm) in
      l ∙ ap₂ (λ (x y : ℕ). x * y) p (sym q) ∙ r

  -- over the common denominator
  first : X * E * (I * J) ≡ a * J * (D * E)
  first = mul-mul-mul_comm X E I J ∙ ap₂ (λ (x y : ℕ). x * y) p (mul_comm E J) ∙ mul-mul-mul_comm a D J E

  second : Y * D * (I * J) ≡ b * I * (D * E)
  second =
      let l : Y * D * (I * J) ≡ Y * J * (D * I) = simp (mul_assoc, mul_comm, mul_left_comm) in
      let r : b * E * (D * I) ≡ b * I * (D * E) = simp (mul_assoc, mul_comm, mul_left_comm) in
      l ∙ ap (λ (x : ℕ). x * (D * I)) q ∙ r

  sums : (X * E + Y * D) * (I * J) ≡ (a * J + b * I) * (D * E)
  sums = add-mul (X * E) (Y * D) (I * J) ∙ ap₂ (λ (x y : ℕ). x + y) first second ∙ sym (add-mul (a * J) (b * I) (D * E))

  differences : (Y * D - X * E) * (I * J) ≡ (b * I - a * J) * (D * E)
  differences = less-mul (Y * D) (X * E) (I * J) ∙ ap₂ (λ (x y : ℕ). x - y) second first ∙ sym (less-mul (b * I) (a * J) (D * E))
    where
      less-mul : (x y z : ℕ) → (x - y) * z ≡ x * z - y * z
      less-mul x y z = mul_comm (x - y) z ∙ mul-sub z x y ∙ ap₂ (λ (v w : ℕ). v - w) (mul_comm z x) (mul_comm z y)

  ordered : 0 < D * E → a * J < b * I → X * E < Y * D
  ordered h l = lt_of_mul-lt-mul_right (I * J) (rw (first, second) (mul-lt-mul_of_pos_right l h))

-- a sum of one sign, and a difference that is negative
sum_same : (f : Format) (s : Bool) (a b c : ℕ) → sum f s a s b c ≡ round f s (a + b) c
unfolding sum
sum_same f true a b c = refl
sum_same f false a b c = refl

sum_less : (f : Format) (a b c : ℕ) → a < b → sum f false a true b c ≡ round f true (b - a) c
unfolding sum
sum_less f a b c h = rw (lt-ltb a b h)

module _ (f : Format) {x y : Float} {s t : Bool} {a b i j : ℕ} (v : Value x s a i) (w : Value y t b j) (u k : ℕ) (h : Held f u k) where
  pub mul-value : a * b * 2 ^ k ≡ u * (2 ^ i * 2 ^ j) → Value (mul f x y) (unlike s t) u k
  unfolding mul
  mul-value q =
      let X = parts v in
      let Y = parts w in
      rw (X.is, Y.is)
      (rounded f (unlike s t) _ _ _ _ u k (mul-pos (down_pos X.e) (down_pos Y.e)) (mul-pos (pow_pos i) (pow_pos j))
      (product _ _ _ _ _ _ _ _ X.size Y.size) q h)

  pub div_value : 0 < b → a * 2 ^ j * 2 ^ k ≡ u * (b * 2 ^ i) → Value (div f x y) (unlike s t) u k
  unfolding div
  div_value b0 q =
      let X = parts v in
      let Y = parts w in
      let n0 : 0 < Y.m * up Y.e = first_pos _ (2 ^ j) (rw Y.size (mul-pos b0 (down_pos Y.e))) in
      rw (X.is, Y.is, ne_eqb Y.m 0 (above Y.m (first_pos Y.m (up Y.e) n0)))
      (rounded f (unlike s t) _ _ _ _ u k (mul-pos n0 (down_pos X.e)) (mul-pos b0 (pow_pos i))
      (quotient _ _ _ _ _ _ _ _ X.size Y.size) q h)
    where
      above : (n : ℕ) → 0 < n → n ≡ 0 → ⊥
      above n p e = omega arith

module _ (f : Format) {x y : Float} {s : Bool} {a b i j : ℕ} (v : Value x s a i) (w : Value y s b j) (u k : ℕ) (h : Held f u k) where
  pub add-value : (a * 2 ^ j + b * 2 ^ i) * 2 ^ k ≡ u * (2 ^ i * 2 ^ j) → Value (add f x y) s u k
  unfolding add
  add-value q =
      let X = parts v in
      let Y = parts w in
      rw (X.is, Y.is, sum_same f s)
      (rounded f s _ _ _ _ u k (mul-pos (down_pos X.e) (down_pos Y.e)) (mul-pos (pow_pos i) (pow_pos j))
      (sums _ _ _ _ _ _ _ _ X.size Y.size) q h)

-- a difference that is negative
module _ (f : Format) {x y : Float} {a b i j : ℕ} (v : Value x false a i) (w : Value y false b j) (u k : ℕ) (h : Held f u k) where
  pub sub-value : a * 2 ^ j < b * 2 ^ i → (b * 2 ^ i - a * 2 ^ j) * 2 ^ k ≡ u * (2 ^ i * 2 ^ j) → Value (sub f x y) true u k
  unfolding sub
  sub-value l q =
      let X = parts v in
      let Y = parts w in
      let d0 = mul-pos (down_pos X.e) (down_pos Y.e) in
      rw (X.is, Y.is, sum_less f _ _ _ (ordered _ _ _ _ _ _ _ _ X.size Y.size d0 l))
      (rounded f true _ _ _ _ u k d0 (mul-pos (pow_pos i) (pow_pos j))
      (differences _ _ _ _ _ _ _ _ X.size Y.size) q h)

-- ---- casts

pub of-value : (f : Format) (n : ℕ) → n ≤ 2 ^ prec f → Value (of_int f (pos n)) false n 0
unfolding of_int
of-value f n h = record { is = round_whole f false n h }

-- a float of the format that is a negative whole number casts to it
pub negative-cast : (f : Format) (h : ℕ) (x : Float) (k : ℕ) → T (fits f x) → Value x true (suc k) 0 → suc k ≤ 2 ^ prec f → suc k ≤ 2 ^ h
    → T (in_signed f h x) × (to_signed h x ≡ negsuc k)
unfolding of_int in_float
negative-cast f h x k fx v p r =
    rw (whole_unique f x (of_int f (negsuc k)) true (suc k) fx (of_int-fits f (negsuc k)) v.is (round_whole f true (suc k) p))
    (negative_back f h k (lt→ltb k (2 ^ prec f) p) r)
