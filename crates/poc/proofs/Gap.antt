-- The numbers strictly between p - 2^L and p, and the layers and offsets that give them: each number comes from exactly one pair,
-- since a number above 0 is an odd number times a power of two in exactly one way. Assumes nothing.
use mathlib.Core.Path.{◌≡◌, refl, sym, ap, ◌∙◌}
use Prim.Native.Nat.{ℕ, zero, suc, ◌+◌, ◌-◌, ◌*◌, ◌/◌, ◌%◌, ◌^◌, ◌≤◌, ◌<◌}
use native.Mathlib.Nat.{pow-succ', mul-lt-mul_of_pos_right, mul-pos}
use native.Mathlib.Omega.{arith}
use lib.IntN.{ℤ, pos, sub_ℕ, ◌+ℤ◌}
use lib.Pow.{pow_pos}
use Rattle.poc.specs.Distance.{Between, Origin}
use Rattle.poc.proofs.Differences.{sub_same, sub-zero, sub-add, sub_of, sub_inj, pos_inj}
use Rattle.poc.proofs.Offset.{Layer, length-split}
use Rattle.poc.proofs.Seek.{twice}

-- ---- an odd number times a power of two

odd_power : (a b i j : ℕ) → (2 * i + 1) * 2 ^ a ≡ (2 * j + 1) * 2 ^ b → (a ≡ b) × (i ≡ j)
odd_power zero zero i j e = (refl, omega arith)
odd_power zero (suc b) i j e = let q = rw (pow-succ' 2 b) at e in absurd (omega arith)
odd_power (suc a) zero i j e = let q = rw (pow-succ' 2 a) at e in absurd (omega arith)
odd_power (suc a) (suc b) i j e =
    let q = rw (pow-succ' 2 a, pow-succ' 2 b) at e in
    let h = odd_power a b i j (omega arith) in
    (ap suc h.0, h.1)

-- q is (2 i + 1) 2^(L-t), with a layer t from 1 to L and an i that the layer has.
record Parts (L q : ℕ) : Type 0 where
  t : ℕ
  i : ℕ
  layer_low : 1 ≤ t
  layer_high : t ≤ L
  within : i < 2 ^ (t - 1)
  is : q ≡ (2 * i + 1) * 2 ^ (L - t)

parts : (L q : ℕ) → 1 ≤ q → q < 2 ^ L → Parts L q
parts zero q h k = absurd (omega arith)
parts (suc L) q h k = pick (q % 2) refl (parts L (q / 2))
  where
    odd : q % 2 ≡ 1 → Parts (suc L) q
    odd e =
        let a : suc L - 1 ≡ L = omega arith in
        let b : suc L - suc L ≡ 0 = omega arith in
        record {
          t = suc L;
          i = q / 2;
          layer_low = omega arith;
          layer_high = omega arith;
          within = rw a (omega arith);
          is = rw b (omega arith);
        }

    even : q % 2 ≡ 0 → Parts L (q / 2) → Parts (suc L) q
    even e s =
        let f = s.layer_high in
        let a : suc L - s.t ≡ suc (L - s.t) = omega arith in
        let b = s.is in
        record {
          t = s.t;
          i = s.i;
          layer_low = s.layer_low;
          layer_high = omega arith;
          within = s.within;
          is = rw (a, pow-succ' 2 (L - s.t)) (omega arith);
        }

    pick : (b : ℕ) → q % 2 ≡ b → (1 ≤ q / 2 → q / 2 < 2 ^ L → Parts L (q / 2)) → Parts (suc L) q
    pick zero e below = even e (below (omega arith) (omega arith))
    pick (suc b) e below = odd (omega arith)

-- ---- a number of the gap

-- what the formula adds to p - 2^L
abbrev part : ℕ → ℕ → ℕ → ℕ
part L t d = (2 * (d - 2 ^ (t - 1)) + 1) * 2 ^ (L - t)

module _ (L t d : ℕ) (above : 1 ≤ t) (most : t ≤ L) (l : Layer t d) where
  part-above : 1 ≤ part L t d
  part-above = mul-pos (omega arith) (pow_pos (L - t))

  pub part-below : part L t d < 2 ^ L
  part-below =
      let a = l.low in
      let b = l.high in
      let c = twice t above in
      rw (length-split L t most)
      (let h : (2 * (d - 2 ^ (t - 1)) + 1) * 2 ^ (L - t) < 2 ^ t * 2 ^ (L - t) = mul-lt-mul_of_pos_right (omega arith) (pow_pos (L - t)) in omega arith)

pub layer-of : {L p t d : ℕ} {n : ℤ} → Origin L p n t d → Layer t d
layer-of o = record { low = o.offset_low; high = o.offset_high }

-- what a layer and an offset give lies in the gap
pub origin-between : {L p t d : ℕ} {n : ℤ} → Origin L p n t d → Between L p n
origin-between {L} {p} {t} {d} {n} o =
    let a = part-above L t d o.layer_low o.layer_high (layer-of o) in
    let b = part-below L t d o.layer_low o.layer_high (layer-of o) in
    record {
      distance = 2 ^ L - part L t d;
      above_zero = omega arith;
      below_length = omega arith;
      apart =
          ap (λ z. z +ℤ pos (2 ^ L - part L t d)) (sym o.gives)
          ∙ sub-add (p + part L t d) (2 ^ L) (2 ^ L - part L t d)
          ∙ sub_same (p + part L t d + (2 ^ L - part L t d)) (2 ^ L) p 0 (omega arith)
          ∙ sub-zero p;
    }

-- two pairs that give one number are one pair
pub origin-unique : {L p t d u e : ℕ} {n : ℤ} → Origin L p n t d → Origin L p n u e → (t ≡ u) × (d ≡ e)
origin-unique {L} {p} {t} {d} {u} {e} a b =
    let s = sub_inj (p + part L t d) (p + part L u e) (2 ^ L) (a.gives ∙ sym b.gives) in
    let q = odd_power (L - t) (L - u) (d - 2 ^ (t - 1)) (e - 2 ^ (u - 1)) (omega arith) in
    let f = a.layer_high in
    let g = b.layer_high in
    let h : t ≡ u = let x = q.0 in omega arith in
    let k = ap (λ (x : ℕ). 2 ^ (x - 1)) h in
    let x = q.1 in
    let v = a.offset_low in
    let w = b.offset_low in
    (h, omega arith)

-- each number of the gap has its pair
pub record Found (L p : ℕ) (n : ℤ) : Type 0 where
  pub t : ℕ
  pub d : ℕ
  pub origin : Origin L p n t d

pub find-origin : (L p : ℕ) (n : ℤ) → Between L p n → Found L p n
find-origin L p n b = found (parts L (2 ^ L - b.distance) (omega arith) (omega arith))
  where
    found : Parts L (2 ^ L - b.distance) → Found L p n
    found s =
        let h : 2 ^ (s.t - 1) + s.i - 2 ^ (s.t - 1) ≡ s.i = omega arith in
        let f = twice s.t s.layer_low in
        let g = s.within in
        let k = b.below_length in
        record {
          t = s.t;
          d = 2 ^ (s.t - 1) + s.i;
          origin =
              record {
                layer_low = s.layer_low;
                layer_high = s.layer_high;
                offset_low = omega arith;
                offset_high = omega arith;
                gives =
                    ap (λ (x : ℕ). sub_ℕ (p + (2 * x + 1) * 2 ^ (L - s.t)) (2 ^ L)) h
                    ∙ ap (λ (x : ℕ). sub_ℕ (p + x) (2 ^ L)) (sym s.is)
                    ∙ sub_same (p + (2 ^ L - b.distance)) (2 ^ L) p b.distance (omega arith)
                    ∙ sym (sub_of n b.distance p b.apart);
              };
        }

-- p itself is not in the gap
pub not-between : {L p : ℕ} {n : ℤ} → Between L p n → pos p ≡ n → ⊥
not-between {L} {p} {n} b e =
    let h = pos_inj (p + b.distance) p (ap (λ z. z +ℤ pos b.distance) e ∙ b.apart) in
    let k = b.above_zero in
    omega arith
