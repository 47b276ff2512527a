-- The layer of an offset is how many binary digits it has; the search, step by step.
-- Assumes nothing.
use mathlib.Core.Path.{◌≡◌, refl, sym, ◌∙◌, subst}
use mathlib.Core.Bool.{Bool, true, false}
use Prim.Native.Nat.{ℕ, zero, suc, ◌+◌, ◌-◌, ◌*◌, ◌%◌, ◌^◌, ◌≤◌, ◌<◌}
use native.Mathlib.Omega.{arith}
use lib.Dec.{eqb}
use lib.Ieee.{size}
use lib.Ieee.Digits.{size-lt, size_reaches}
use borrow.Author.Tests.{lt-ltb, ne_eqb, eqb-true}
use Rattle.def.specs.Binary.{floor_log2}
use Rattle.poc.specs.PictureNumber.{in_layer, seek}
use Rattle.poc.specs.Standard.{expected_temporal_id}

has-digits : (n : ℕ) → 0 < n → 1 + (size n - 1) ≡ size n
has-digits n h = go (size n) (size-lt n)
  where
    go : (k : ℕ) → n < 2 ^ k → 1 + (k - 1) ≡ k
    go zero l = absurd (omega arith)
    go (suc k) l = omega arith

pub expected-digits : (d : ℕ) → expected_temporal_id d ≡ size d
unfolding expected_temporal_id floor_log2 size
expected-digits zero = refl
expected-digits (suc d) = rw (ne_eqb (suc d) 0 (λ e. omega arith)) (has-digits (suc d) (omega arith))

pub layer-digits : (t d : ℕ) → 1 ≤ t → in_layer t d ≡ eqb (size d) t
unfolding in_layer floor_log2 size
layer-digits t zero h = sym (ne_eqb 0 t (λ e. omega arith))
layer-digits t (suc d) h = rw (lt-ltb 0 (suc d) (omega arith), has-digits (suc d) (omega arith))

-- an offset of the layer lies from 2^(t-1) to 2^t - 1
pub layer-bounds : (t d : ℕ) → 1 ≤ t → in_layer t d ≡ true → (2 ^ (t - 1) ≤ d) × (d < 2 ^ t)
layer-bounds t d h e =
    let g : size d ≡ t = eqb-true (size d) t (sym (layer-digits t d h) ∙ e) in
    (size_reaches d (t - 1) (omega arith), subst (λ (k : ℕ). d < 2 ^ k) g (size-lt d))

-- a layer above 0 ends where twice its first offset stands
pub twice : (t : ℕ) → 1 ≤ t → 2 ^ t ≡ 2 * 2 ^ (t - 1)
twice zero h = absurd (omega arith)
twice (suc t) h = let e : suc t - 1 ≡ t = omega arith in rw e (omega arith)

-- ---- what the search finds

pub seek_hit : (n L t d : ℕ) → in_layer t d ≡ true → seek n L t d ≡ d
unfolding seek
seek_hit zero L t d e = refl
seek_hit (suc n) L t d e = rw (e, seek)

pub seek-miss : (n L t d : ℕ) → in_layer t d ≡ false → seek (suc n) L t d ≡ seek n L t ((d + 1) % 2 ^ L)
unfolding seek
seek-miss n L t d e = rw (e, seek)

-- once it is found, more steps find the same
pub seek-settled : (n L t d : ℕ) → in_layer t (seek n L t d) ≡ true → seek (suc n) L t d ≡ seek n L t d
unfolding seek
seek-settled zero L t d e = seek_hit 1 L t d e
seek-settled (suc n) L t d h = go (in_layer t d) refl (seek-settled n L t ((d + 1) % 2 ^ L))
  where
    go : (b : Bool) → in_layer t d ≡ b
        → (in_layer t (seek n L t ((d + 1) % 2 ^ L)) ≡ true → seek (suc n) L t ((d + 1) % 2 ^ L) ≡ seek n L t ((d + 1) % 2 ^ L))
        → seek (suc (suc n)) L t d ≡ seek (suc n) L t d
    go true e ih = seek_hit (suc (suc n)) L t d e ∙ sym (seek_hit (suc n) L t d e)
    go false e ih = seek-miss (suc n) L t d e ∙ ih (rw (seek-miss n L t d e) at h) ∙ sym (seek-miss n L t d e)
