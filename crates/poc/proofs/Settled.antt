-- When the new number is too high, and that it is previous plus a whole number that is negative.
-- Assumes nothing.
use mathlib.Core.Path.{◌≡◌, refl, ap}
use mathlib.Core.Bool.{Bool, true, false, ◌||◌}
use Prim.Native.Nat.{ℕ, suc, ◌+◌, ◌-◌, ◌≤◌, ◌<◌}
use native.Mathlib.Omega.{arith}
use lib.Dec.{ltb}
use lib.IntN.{ℤ, pos, negsuc, sub_ℕ, ◌+ℤ◌}
use lib.Signed.{mag}
use borrow.Author.Tests.{lt-ltb, le-ltb, ltb-true, ltb-false}
use Rattle.def.specs.declared.EvcPoc.{EvcPoc}
use Rattle.def.specs.declared.Refusal.TheVariants.{NumberTooHigh}
use Rattle.poc.specs.PictureNumber.{max_poc, too_high, derivation_refused, settled}
use Rattle.poc.specs.Number.{derived_as}

-- previous past the top is enough for 6
pub settled-high : (r : EvcPoc) (z : ℤ) (prev d : ℕ) → max_poc < prev → settled r z prev d ≡ derivation_refused NumberTooHigh r
settled-high r z prev d h = rw (lt-ltb max_poc prev h, or-true (too_high z))
  where
    or-true : (b : Bool) → (b || true) ≡ true
    or-true true = refl
    or-true false = refl

pub settled-fits : (r : EvcPoc) (z : ℤ) (prev d : ℕ) → too_high z ≡ false → prev ≤ max_poc
    → settled r z prev d ≡ derived_as (record { 0 = z }) prev (record { 0 = pos d })
settled-fits r z prev d e h = rw (e, le-ltb max_poc prev h)

-- p + (a - b), for an a below b
module _ (p a b : ℕ) (h : a < b) where
  pub sum_is : pos p +ℤ sub_ℕ a b ≡ sub_ℕ (p + a) b
  sum_is = rw (lt-ltb a b h) (go (ltb (p + a) b) refl)
    where
      go : (t : Bool) → ltb (p + a) b ≡ t → sub_ℕ p (suc (b - suc a)) ≡ sub_ℕ (p + a) b
      go true e =
          let l = ltb-true (p + a) b e in
          let d : suc (b - suc a) - suc p ≡ b - suc (p + a) = omega arith in
          rw (e, lt-ltb p (suc (b - suc a)) (omega arith)) (ap negsuc d)
      go false e =
          let l = ltb-false (p + a) b e in
          let d : p - suc (b - suc a) ≡ p + a - b = omega arith in
          rw (e, le-ltb p (suc (b - suc a)) (omega arith)) (ap pos d)

  -- no higher than p, and no lower than -b
  pub sum_low : p ≤ max_poc → too_high (sub_ℕ (p + a) b) ≡ false
  sum_low q = go (ltb (p + a) b) refl
    where
      go : (t : Bool) → ltb (p + a) b ≡ t → too_high (sub_ℕ (p + a) b) ≡ false
      go true e = rw e
      go false e = let l = ltb-false (p + a) b e in rw (e, le-ltb max_poc (p + a - b) (omega arith))

  pub sum-mag : (m : ℕ) → p < m → b ≤ m → mag (sub_ℕ (p + a) b) < m
  sum-mag m q l = go (ltb (p + a) b) refl
    where
      go : (t : Bool) → ltb (p + a) b ≡ t → mag (sub_ℕ (p + a) b) < m
      go true e = rw e (omega arith)
      go false e = rw e (omega arith)
