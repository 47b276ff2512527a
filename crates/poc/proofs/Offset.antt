-- Laws of the search for a decoding offset: which decoding offsets belong to a layer, and where the search ends.
-- Layer t, above 0, holds the offsets from 2^(t-1) to 2^t - 1. Assumes nothing.
use mathlib.Core.Path.{◌≡◌, refl, sym, ap, ◌∙◌}
use mathlib.Core.Bool.{Bool, true, false, false≢true}
use mathlib.Core.Logic.{⊎_elim}
use Prim.Native.Nat.{ℕ, zero, suc, ◌+◌, ◌-◌, ◌*◌, ◌%◌, ◌^◌, ◌≤◌, ◌<◌}
use native.Mathlib.Nat.{mod-eq_of_lt, mod_self, sub-add_cancel}
use native.Mathlib.Omega.{arith}
use lib.Pow.{pow_pos, pow_mono, pow-lt, pow-add}
use lib.Ieee.{size}
use lib.Ieee.Digits.{size-lt, size-le}
use borrow.Author.Tests.{eq-eqb}
use Rattle.seq.proofs.Tests.{lt-or-ge}
use Rattle.poc.specs.PictureNumber.{in_layer, seek, offset_from}
use Rattle.poc.proofs.Seek.{layer-digits, layer-bounds, twice, seek_hit, seek-miss}

-- The offset d belongs to the layer t.
pub record Layer (t d : ℕ) : Type 0 where
  pub low : 2 ^ (t - 1) ≤ d
  pub high : d < 2 ^ t

-- A length in units of 2^(L-t).
pub length-split : (L t : ℕ) → t ≤ L → 2 ^ L ≡ 2 ^ (L - t) * 2 ^ t
length-split L t h = ap (λ (k : ℕ). 2 ^ k) (sym (sub-add_cancel h)) ∙ pow-add 2 (L - t) t

-- A layer's first offset belongs to it.
pub first_of : (t : ℕ) → 1 ≤ t → Layer t (2 ^ (t - 1))
first_of t h = let e = twice t h in let p = pow_pos (t - 1) in record { low = omega arith; high = omega arith }

-- Every offset belongs to one layer at most.
pub one-layer : (t u d : ℕ) → 1 ≤ t → 1 ≤ u → Layer t d → Layer u d → t ≡ u
one-layer t u d ht hu a b =
    ⊎_elim (λ h. absurd (apart t u h a b)) (λ h. ⊎_elim (λ k. absurd (apart u t k b a)) (λ k. omega arith) (lt-or-ge u t)) (lt-or-ge t u)
  where
    apart : (a b : ℕ) → a < b → Layer a d → Layer b d → ⊥
    apart a b h x y = let p : 2 ^ a ≤ 2 ^ (b - 1) = pow_mono (omega arith) in omega arith

-- Its offsets are those of t binary digits.
pub digits : (t d : ℕ) → 1 ≤ t → Layer t d → size d ≡ t
digits t d h l = ⊎_elim (λ k. absurd (short k)) (λ k. let g = size-le d t l.high in omega arith) (lt-or-ge (size d) t)
  where
    short : size d < t → ⊥
    short k =
        let a = size-lt d in
        let b : 2 ^ size d ≤ 2 ^ (t - 1) = pow_mono (omega arith) in
        let c = l.low in
        omega arith

pub in_layer-true : (t d : ℕ) → 1 ≤ t → Layer t d → in_layer t d ≡ true
in_layer-true t d h l = layer-digits t d h ∙ eq-eqb (size d) t (digits t d h l)

pub in_layer-gives : (t d : ℕ) → 1 ≤ t → in_layer t d ≡ true → Layer t d
in_layer-gives t d h e = let b = layer-bounds t d h e in record { low = b.0; high = b.1 }

pub in_layer-false : (t d : ℕ) → 1 ≤ t → (Layer t d → ⊥) → in_layer t d ≡ false
in_layer-false t d h f = pick (in_layer t d) refl
  where
    pick : (b : Bool) → in_layer t d ≡ b → in_layer t d ≡ false
    pick true e = absurd (f (in_layer-gives t d h e))
    pick false e = e

-- ---- the search

module _ (L t : ℕ) (above : 1 ≤ t) (most : t ≤ L) where
  starts-below : 2 ^ (t - 1) < 2 ^ L
  starts-below = pow-lt (omega arith)

  -- from k below the layer's first offset, in k steps
  seek-up : (k n d : ℕ) → d + k ≡ 2 ^ (t - 1) → k ≤ n → seek n L t d ≡ 2 ^ (t - 1)
  seek-up zero n d e h =
      let q : d ≡ 2 ^ (t - 1) = omega arith in
      rw q (seek_hit n L t (2 ^ (t - 1)) (in_layer-true t (2 ^ (t - 1)) above (first_of t above)))
  seek-up (suc k) zero d e h = absurd (omega arith)
  seek-up (suc k) (suc n) d e h =
      let s = starts-below in
      seek-miss n L t d (in_layer-false t d above (λ l. let c = l.low in omega arith))
      ∙ ap (λ (x : ℕ). seek n L t x) (mod-eq_of_lt (omega arith))
      ∙ seek-up k n (d + 1) (omega arith) (omega arith)

  -- from k + 1 below 2^L, past the layer: by way of 0
  seek-round : (k n d : ℕ) → d + suc k ≡ 2 ^ L → 2 ^ t ≤ d → suc k + 2 ^ (t - 1) ≤ n → seek n L t d ≡ 2 ^ (t - 1)
  seek-round k zero d e p h = absurd (omega arith)
  seek-round zero (suc n) d e p h =
      seek-miss n L t d (in_layer-false t d above (λ l. let c = l.high in omega arith))
      ∙ ap (λ (x : ℕ). seek n L t x) (ap (λ (x : ℕ). x % 2 ^ L) (omega arith) ∙ mod_self (2 ^ L))
      ∙ seek-up (2 ^ (t - 1)) n 0 (omega arith) (omega arith)
  seek-round (suc k) (suc n) d e p h =
      seek-miss n L t d (in_layer-false t d above (λ l. let c = l.high in omega arith))
      ∙ ap (λ (x : ℕ). seek n L t x) (mod-eq_of_lt (omega arith))
      ∙ seek-round k n (d + 1) (omega arith) (omega arith) (omega arith)

  pub offset_from-here : (d : ℕ) → Layer t d → offset_from L t d ≡ d
  unfolding offset_from
  offset_from-here d l = seek_hit (2 ^ L) L t d (in_layer-true t d above l)

  pub offset_from-else : (d : ℕ) → d < 2 ^ L → (Layer t d → ⊥) → offset_from L t d ≡ 2 ^ (t - 1)
  unfolding offset_from
  offset_from-else d h f = ⊎_elim below (λ k. past (λ l. f (record { low = k; high = l }))) (lt-or-ge d (2 ^ (t - 1)))
    where
      below : d < 2 ^ (t - 1) → seek (2 ^ L) L t d ≡ 2 ^ (t - 1)
      below k = let s = starts-below in seek-up (2 ^ (t - 1) - d) (2 ^ L) d (omega arith) (omega arith)

      past : (d < 2 ^ t → ⊥) → seek (2 ^ L) L t d ≡ 2 ^ (t - 1)
      past g =
          let e = twice t above in
          let p = pow_pos (t - 1) in
          seek-round (2 ^ L - (d + 1)) (2 ^ L) d (omega arith) (omega arith) (omega arith)

  -- Wherever the search starts, it ends in the layer.
  pub offset_from-lands : (d : ℕ) → d < 2 ^ L → Layer t (offset_from L t d)
  offset_from-lands d h = pick (in_layer t d) refl
    where
      pick : (b : Bool) → in_layer t d ≡ b → Layer t (offset_from L t d)
      pick true e = let l = in_layer-gives t d above e in rw (offset_from-here d l) l
      pick false e = rw (offset_from-else d h (λ l. false≢true (sym e ∙ in_layer-true t d above l))) (first_of t above)
