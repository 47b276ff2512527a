-- The numbers of a whole state's keys are numbers that a picture can have.
-- Assumes nothing.
use mathlib.Core.Path.{◌≡◌, refl}
use mathlib.Core.Bool.{Bool, true, false}
use mathlib.Core.List.Memᴰ
use mathlib.Core.List.{List, [], ◌∷◌, Memᴰ}
use Prim.Native.Nat.{ℕ, ◌≤◌}
use native.Mathlib.Omega.{arith}
use lib.ListN.{length, get_or}
use Rattle.seq.proofs.Members.{mem-at}
use Rattle.def.specs.State.{slots, highest_poc}
use Rattle.keys.specs.declared.{Rest.Rest}
use Rattle.keys.specs.Keys.{key_present, key_number, slot_at, stands}
use Rattle.whole.specs.Whole.{whole, places}
use Rattle.whole.proofs.Laws.{whole-rules}
use Rattle.conversion.specs.Fitting.{KeysFit}

module _ (keys rows : List ℕ) (rest : Rest) (w : whole (stands keys rows rest) ≡ true) where
  fits : (k : ℕ) → Memᴰ (slot_at rows k) (places (stands keys rows rest)) → key_number k ≤ highest_poc
  fits k m = pick (key_present k) refl
    where
      pick : (p : Bool) → key_present k ≡ p → key_number k ≤ highest_poc
      pick true e = (whole-rules (stands keys rows rest) w).numbers_fit (slot_at rows k) m e
      pick false e = let z = ((whole-rules (stands keys rows rest) w).empty_zero (slot_at rows k) m e).poc_zero in omega arith

  pub keys-fit : length keys ≡ slots → KeysFit keys
  keys-fit l i h = fits (get_or keys i 0) (Memᴰ.append_left (slot_at rows rest.lease ∷ []) (Memᴰ.map (slot_at rows) (mem-at keys i 0 (omega arith))))

  pub lease-fits : key_number rest.lease ≤ highest_poc
  lease-fits = fits rest.lease (Memᴰ.append_right (stands keys rows rest).pic (Memᴰ.head refl))
