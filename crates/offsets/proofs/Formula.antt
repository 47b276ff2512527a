-- The signed offset, worked out in `f32` in the Rust's order of operations, is the whole number of the definition: no step rounds, and the cast keeps it.
-- Assumes nothing.
use mathlib.Core.Path.{◌≡◌, refl, sym, ap, ◌∙◌}
use Prim.Native.Nat.{ℕ, suc, ◌+◌, ◌-◌, ◌*◌, ◌^◌, ◌≤◌, ◌<◌}
use native.Mathlib.Nat.{le_trans, mul-one, one-mul, mul_comm, mul_assoc, mul-pos, add-mul}
use native.Mathlib.Omega.{arith}
use mathlib.Core.Bool.{true, false}
use lib.Dec.{T}
use lib.IntN.{ℤ, pos, negsuc}
use lib.Pow.{pow-add, pow_pos, pow_mono}
use lib.Ieee.{Float, binary32, add, sub, mul, div, of_int, of_bits, to_signed, in_signed}
use lib.Ieee.Digits.{back}
use lib.Ieee.Fits.{mul-fits}
use borrow.Author.Tests.{lt-ltb}
use Rattle.poc.specs.Domain.{OfLayer, signed_offset}
use Rattle.poc.proofs.Seek.{twice}
use Rattle.offsets.proofs.Float.{Value, Held, mul-value, div_value, add-value, sub-value, of-value, negative-cast}

-- 2.0 and 1.0
abbrev two : Float
two = of_bits binary32 1073741824

abbrev one : Float
one = of_bits binary32 1065353216

-- n * ((2.0 * z + 1.0) / m - 2.0)
abbrev pub formula : ℕ → ℤ → ℕ → Float
formula n z m =
    mul binary32 (of_int binary32 (pos n))
    (sub binary32 (div binary32 (add binary32 (mul binary32 two (of_int binary32 z)) one) (of_int binary32 (pos m))) two)

-- ---- in whole numbers

-- what is left of 2 when (2d + 1) / 2^t is taken away, in parts of 2^t
abbrev short-of-two : ℕ → ℕ → ℕ
short-of-two P d = 2 * P - (2 * d + 1)

module _ (P H d : ℕ) (twice : P ≡ H + H) (low : H ≤ d) (high : d < P) where
  parts_add : short-of-two P d + (2 * (d - H) + 1) ≡ P
  parts_add = omega arith

  under-two : (2 * d + 1) * 1 < 2 * P
  under-two = omega arith

  left_over : 0 < short-of-two P d
  left_over = omega arith

rest : (x y z : ℕ) → x + y ≡ z → 0 < x → x ≡ suc (z - suc y)
rest x y z e h = omega arith

below : (x y z : ℕ) → x + y ≡ z → 0 < x → y < z
below x y z e h = omega arith

scaled : (N u W P S : ℕ) → N ≡ W * P → u * W ≡ S → N * u * 1 ≡ S * (1 * P)
scaled N u W P S e g =
    mul-one (N * u) ∙ ap (λ (x : ℕ). x * u) e ∙ mul_comm (W * P) u ∙ sym (mul_assoc u W P) ∙ ap (λ (x : ℕ). x * P) g
    ∙ ap (λ (x : ℕ). S * x) (sym (one-mul P))

-- the offset is -1 - this
abbrev past : ℕ → ℕ → ℕ → ℕ
past L t d = 2 ^ L - suc ((2 * (d - 2 ^ (t - 1)) + 1) * 2 ^ (L - t))

module _ {L t d : ℕ} (h : OfLayer L t (pos d)) where
  cut : 2 ^ L ≡ 2 ^ (L - t) * 2 ^ t
  cut = ap (λ (x : ℕ). 2 ^ x) (sym (back L t h.layer_high)) ∙ pow-add 2 (L - t) t

  doubled : 2 ^ t ≡ 2 ^ (t - 1) + 2 ^ (t - 1)
  doubled = let e = twice t h.layer_low in omega arith

  small : 2 ^ L ≤ 32768
  small = pow_mono h.short

  small-layer : 2 ^ t ≤ 32768
  small-layer = le_trans (pow_mono h.layer_high) small

  -- so much below zero is the offset, and so much above -2^L
  apart : short-of-two (2 ^ t) d * 2 ^ (L - t) + (2 * (d - 2 ^ (t - 1)) + 1) * 2 ^ (L - t) ≡ 2 ^ L
  apart =
      sym (add-mul (short-of-two (2 ^ t) d) (2 * (d - 2 ^ (t - 1)) + 1) (2 ^ (L - t)))
      ∙ ap (λ (x : ℕ). x * 2 ^ (L - t)) (parts_add (2 ^ t) (2 ^ (t - 1)) d doubled h.offset_low h.offset_high)
      ∙ mul_comm (2 ^ t) (2 ^ (L - t)) ∙ sym cut

  negative : 0 < short-of-two (2 ^ t) d * 2 ^ (L - t)
  negative = mul-pos (left_over (2 ^ t) (2 ^ (t - 1)) d doubled h.offset_low h.offset_high) (pow_pos (L - t))

  pub stays-below : (2 * (d - 2 ^ (t - 1)) + 1) * 2 ^ (L - t) < 2 ^ L
  stays-below = below _ _ _ apart negative

  pub offset-is : signed_offset L t d ≡ negsuc (past L t d)
  offset-is = rw (lt-ltb _ _ stays-below)

  -- ---- step by step in `f32`

  held : {u k : ℕ} → u ≤ 65536 → k ≤ 15 → Held binary32 u k
  held a b = record { digits = omega arith; fine = omega arith }

  two-value : Value two false 2 0
  unfolding of_bits
  two-value = record { is = (refl, refl) }

  one_value : Value one false 1 0
  unfolding of_bits
  one_value = record { is = (refl, refl) }

  doubled-value : Value (mul binary32 two (of_int binary32 (pos d))) false (2 * d) 0
  doubled-value =
      let a = small-layer in
      let b = h.offset_high in
      mul-value binary32 two-value (of-value binary32 d (omega arith)) (2 * d) 0 (held (omega arith) (omega arith)) (omega arith)

  odd-value : Value (add binary32 (mul binary32 two (of_int binary32 (pos d))) one) false (2 * d + 1) 0
  odd-value =
      let a = small-layer in
      let b = h.offset_high in
      add-value binary32 doubled-value one_value (2 * d + 1) 0 (held (omega arith) (omega arith)) (omega arith)

  fraction-value : Value (div binary32 (add binary32 (mul binary32 two (of_int binary32 (pos d))) one) (of_int binary32 (pos (2 ^ t)))) false (2 * d + 1) t
  fraction-value =
      let a = small-layer in
      let b = h.offset_high in
      div_value binary32 odd-value (of-value binary32 (2 ^ t) (omega arith)) (2 * d + 1) t (held (omega arith) (le_trans h.layer_high h.short))
      (pow_pos t) (simp mul-one)

  difference-value : Value
      (sub binary32 (div binary32 (add binary32 (mul binary32 two (of_int binary32 (pos d))) one) (of_int binary32 (pos (2 ^ t)))) two)
      true (short-of-two (2 ^ t) d) t
  difference-value =
      let a = small-layer in
      sub-value binary32 fraction-value two-value (short-of-two (2 ^ t) d) t (held (omega arith) (le_trans h.layer_high h.short))
      (under-two (2 ^ t) (2 ^ (t - 1)) d doubled h.offset_low h.offset_high) (simp mul-one)

  whole-value : Value (formula (2 ^ L) (pos d) (2 ^ t)) true (suc (past L t d)) 0
  whole-value =
      let a = small in
      mul-value binary32 (of-value binary32 (2 ^ L) (omega arith)) difference-value (suc (past L t d)) 0 (held (omega arith) (omega arith))
      (scaled (2 ^ L) _ (2 ^ (L - t)) (2 ^ t) _ cut (rest _ _ _ apart negative))

  pub exact : T (in_signed binary32 31 (formula (2 ^ L) (pos d) (2 ^ t))) × (to_signed 31 (formula (2 ^ L) (pos d) (2 ^ t)) ≡ signed_offset L t d)
  exact =
      let a = small in
      let r = negative-cast binary32 31 (formula (2 ^ L) (pos d) (2 ^ t)) (past L t d) (mul-fits binary32 _ _) whole-value (omega arith) (omega arith) in
      (r.0, r.1 ∙ sym offset-is)
