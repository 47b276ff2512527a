-- The derivation is the standard's: on every input it gives the number of ISO/IEC 23094-1's formula, whose fraction is a
-- whole number wherever a call is accepted. Assumes nothing.
use mathlib.Core.Path.{◌≡◌, refl, sym, ap, ap₂, ◌∙◌}
use mathlib.Core.Bool.{Bool, true, false, cond, ◌&&◌, ◌||◌, true≢false}
use Prim.Native.Nat.{ℕ, zero, suc, ◌+◌, ◌-◌, ◌*◌, ◌/◌, ◌%◌, ◌^◌, ◌≤◌, ◌<◌}
use native.Mathlib.Nat.{pos_of_ne-zero, mod-lt, mul-pos, mul-div_cancel}
use native.Mathlib.Omega.{arith}
use lib.Dec.{eqb, ltb}
use lib.IntN.{pos, neg_ℤ, ◌+ℤ◌, ◌*ℤ◌}
use lib.Pow.{pow_pos}
use borrow.Author.Tests.{lt-ltb, ltb-false, eqb-true, eqb-false, eq-eqb, ne_eqb}
use Rattle.def.specs.Binary.{floor_log2}
use Rattle.def.specs.declared.EvcPoc.{EvcPoc}
use Rattle.def.specs.declared.Refusal.TheVariants.{BadLayer, BadRecord}
use Rattle.poc.specs.PictureNumber.{derive, in_layer, seek, offset_from, number, bad_layer, bad_record, derivation_refused, settled}
use Rattle.poc.specs.PictureNumber.{next_offset, next_previous, key_picture, other_picture}
use Rattle.poc.specs.Standard.{standard, StandardAgrees, StandardExact, StandardFound, expected_temporal_id, while_unexpected, poc_offset}
use Rattle.poc.specs.Standard.{whole_part, doc_offset, temporal_zero, temporal_above}
use Rattle.poc.proofs.Differences.{minus, sub-neg, sub_same}
use Rattle.poc.proofs.Offset.{Layer, length-split, in_layer-true, offset_from-lands}
use Rattle.poc.proofs.Seek.{twice, expected-digits, layer-digits, seek-settled}

-- ---- the search

eqb_comm : (a b : ℕ) → eqb a b ≡ eqb b a
eqb_comm a b = pick (eqb b a) refl
  where
    pick : (c : Bool) → eqb b a ≡ c → eqb a b ≡ c
    pick true e = eq-eqb a b (sym (eqb-true b a e))
    pick false e = ne_eqb a b (λ q. eqb-false b a e (sym q))

-- What a layer above 0 expects.
expected : (t d : ℕ) → 1 ≤ t → eqb t (expected_temporal_id d) ≡ in_layer t d
unfolding expected_temporal_id in_layer
expected t d h = at d (1 + floor_log2 d)
  where
    at : (d z : ℕ) → eqb t (cond (eqb d 0) 0 z) ≡ (ltb 0 d && eqb z t)
    at zero z = ne_eqb t 0 (omega arith)
    at (suc d) z = rw (ne_eqb (suc d) 0 (omega arith), lt-ltb 0 (suc d) (omega arith)) (eqb_comm t z)

while-seek : (n L t d : ℕ) → 1 ≤ t → while_unexpected n (2 ^ L) t d ≡ seek n L t d
unfolding while_unexpected seek
while-seek zero L t d h = refl
while-seek (suc n) L t d h = turn (eqb t (expected_temporal_id d)) (in_layer t d) (expected t d h) (while-seek n L t ((d + 1) % 2 ^ L) h)
  where
    turn : (b c : Bool) {x y : ℕ} → b ≡ c → x ≡ y → ◌≡◌ {A = ℕ} (elim b [ true ↦ d | false ↦ x ]) (elim c [ true ↦ d | false ↦ y ])
    turn b true e q = rw e
    turn b false e q = rw e q

-- ---- the fraction

-- A negative multiple of the denominator loses nothing.
whole-negative : (w m : ℕ) → 0 < w → 0 < m → whole_part (record { num = neg_ℤ (pos (w * m)); den = m }) ≡ neg_ℤ (pos w)
whole-negative w m hw hm = at (w * m) refl
  where
    at : (v : ℕ) → v ≡ w * m → whole_part (record { num = neg_ℤ (pos v); den = m }) ≡ neg_ℤ (pos w)
    at zero e = absurd (let p = mul-pos hw hm in omega arith)
    at (suc v) e = ap (λ (x : ℕ). neg_ℤ (pos x)) (ap (λ (x : ℕ). x / m) e ∙ mul-div_cancel w hm)

neg-times : (w m : ℕ) → neg_ℤ (pos w) *ℤ pos m ≡ neg_ℤ (pos (w * m))
neg-times zero m = let e : 0 * m ≡ 0 = omega arith in rw e
neg-times (suc w) m = refl

module _ (L t d : ℕ) (above : 1 ≤ t) (most : t ≤ L) (l : Layer t d) where
  -- how far below previous, in units of 2^(L-t)
  abbrev short : ℕ
  short = 2 * 2 ^ t - (2 * d + 1)

  short-above : 0 < short
  short-above = let h = l.high in omega arith

  numerator : (poc_offset (2 ^ L) t d).num ≡ neg_ℤ (pos (short * 2 ^ (L - t) * 2 ^ t))
  numerator =
      let h = l.high in
      let n : 2 * d + 1 < 2 * 2 ^ t = omega arith in
      let e : suc (2 * 2 ^ t - suc (2 * d + 1)) ≡ short = omega arith in
      let q : 2 ^ (L - t) * 2 ^ t * short ≡ short * 2 ^ (L - t) * 2 ^ t = omega arith in
      ap (λ z. pos (2 ^ L) *ℤ z) (minus (2 * d + 1) (2 * 2 ^ t) ∙ sub-neg (2 * d + 1) (2 * 2 ^ t) n)
      ∙ ap (λ (x : ℕ). neg_ℤ (pos x)) (ap₂ (λ (x y : ℕ). x * y) (length-split L t most) e ∙ q)

  whole_part-poc_offset : whole_part (poc_offset (2 ^ L) t d) ≡ neg_ℤ (pos (short * 2 ^ (L - t)))
  whole_part-poc_offset =
      ap (λ z. whole_part (record { num = z; den = 2 ^ t })) numerator
      ∙ whole-negative (short * 2 ^ (L - t)) (2 ^ t) (mul-pos short-above (pow_pos (L - t))) (pow_pos t)

  exact : whole_part (poc_offset (2 ^ L) t d) *ℤ pos (2 ^ t) ≡ (poc_offset (2 ^ L) t d).num
  exact = rw whole_part-poc_offset (neg-times (short * 2 ^ (L - t)) (2 ^ t) ∙ sym numerator)

  same_number : (p : ℕ) → pos p +ℤ whole_part (poc_offset (2 ^ L) t d) ≡ number p L t d
  same_number p =
      ap (λ z. pos p +ℤ z) whole_part-poc_offset
      ∙ minus p (short * 2 ^ (L - t))
      ∙ sub_same p (short * 2 ^ (L - t)) (p + (2 * (d - 2 ^ (t - 1)) + 1) * 2 ^ (L - t)) (2 ^ L)
      (ap (λ (x : ℕ). p + x) (length-split L t most ∙ ap (λ (x : ℕ). 2 ^ (L - t) * x) (sym parts))
      ∙ sums p (2 ^ (L - t)) (2 * (d - 2 ^ (t - 1)) + 1) short)
    where
      parts : 2 * (d - 2 ^ (t - 1)) + 1 + short ≡ 2 ^ t
      parts = let a = l.low in let b = l.high in let c = twice t above in omega arith

      sums : (p e a b : ℕ) → p + e * (a + b) ≡ p + a * e + b * e
      sums p e a b = omega arith

-- ---- the derivation

-- A call that is not refused for its layer: L is at most 15, and the layer at most L.
pub layer-within : (L t : ℕ) → bad_layer L t ≡ false → (L ≤ 15) × (t ≤ L)
layer-within L t e = pick (ltb 15 L) refl e
  where
    pick : (b : Bool) → ltb 15 L ≡ b → (b || ltb L t) ≡ false → (L ≤ 15) × (t ≤ L)
    pick true a e = absurd (true≢false e)
    pick false a e = (ltb-false 15 L a, ltb-false L t e)

module _ (L t : ℕ) (above : 1 ≤ t) (most : t ≤ L) (r : EvcPoc) where
  same-offset : doc_offset (2 ^ L) t r ≡ offset_from L t (next_offset L r)
  unfolding offset_from
  same-offset = while-seek (2 ^ L) L t (next_offset L r) above

  lands : Layer t (offset_from L t (next_offset L r))
  lands = offset_from-lands L t above most (next_offset L r) (mod-lt _ (pow_pos L))

  same-other : temporal_above (2 ^ L) t r ≡ other_picture L t r
  same-other =
      ap (λ (d : ℕ). settled r (pos (next_previous L r) +ℤ whole_part (poc_offset (2 ^ L) t d)) (next_previous L r) d) same-offset
      ∙ ap (λ z. settled r z (next_previous L r) (offset_from L t (next_offset L r)))
      (same_number L t (offset_from L t (next_offset L r)) above most lands (next_previous L r))

pub standard-agrees : StandardAgrees
unfolding standard derive
standard-agrees L t r = layer (bad_layer L t) refl
  where
    zero_or : (b : Bool) → eqb t 0 ≡ b → t ≤ L
        → cond b (temporal_zero (2 ^ L) r) (temporal_above (2 ^ L) t r) ≡ cond b (key_picture L r) (other_picture L t r)
    zero_or true e h = refl
    zero_or false e h = let n = eqb-false t 0 e in same-other L t (pos_of_ne-zero n) h r

    held : (b : Bool) → t ≤ L
        → cond b (derivation_refused BadRecord r) (cond (eqb t 0) (temporal_zero (2 ^ L) r) (temporal_above (2 ^ L) t r))
        ≡ cond b (derivation_refused BadRecord r) (cond (eqb t 0) (key_picture L r) (other_picture L t r))
    held true h = refl
    held false h = zero_or (eqb t 0) refl h

    layer : (b : Bool) → bad_layer L t ≡ b
        → cond b (derivation_refused BadLayer r)
        (cond (bad_record r) (derivation_refused BadRecord r) (cond (eqb t 0) (temporal_zero (2 ^ L) r) (temporal_above (2 ^ L) t r)))
        ≡ cond b (derivation_refused BadLayer r) (cond (bad_record r) (derivation_refused BadRecord r) (cond (eqb t 0) (key_picture L r) (other_picture L t r)))
    layer true e = refl
    layer false e = held (bad_record r) (layer-within L t e).1

pub standard-exact : StandardExact
standard-exact L t r e above =
    let most = (layer-within L t e).1 in
    rw (same-offset L t above most r) (exact L t (offset_from L t (next_offset L r)) above most (lands L t above most r))

-- ---- the search ends

-- once it is found, any number of steps more finds the same
seek-stays : (k n L t d : ℕ) → in_layer t (seek n L t d) ≡ true → seek (n + k) L t d ≡ seek n L t d
seek-stays zero n L t d e = let q : n + 0 ≡ n = omega arith in rw q
seek-stays (suc k) n L t d e =
    let q : n + suc k ≡ suc (n + k) = omega arith in
    let s = seek-stays k n L t d e in
    rw q (seek-settled (n + k) L t d (rw s e) ∙ s)

pub standard-found : StandardFound
unfolding offset_from
standard-found L t r e above =
    let most = (layer-within L t e).1 in
    let d = offset_from L t (next_offset L r) in
    let found = in_layer-true t d above (lands L t above most r) in
    let there = same-offset L t above most r in
    record {
      expected = rw there (expected-digits d ∙ eqb-true _ t (sym (layer-digits t d above) ∙ found));
      settled_there = λ n. while-seek (2 ^ L + n) L t (next_offset L r) above ∙ seek-stays n (2 ^ L) L t (next_offset L r) found ∙ sym there;
    }
