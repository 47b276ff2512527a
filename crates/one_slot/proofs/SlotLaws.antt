-- A slot of the state that the keys stand for, and the answer for one that holds a picture. Assumes nothing.
use Rattle.std.proofs.Common.{Result, Ok, Err}
use mathlib.Core.Path.{◌≡◌, refl, sym, ap, ◌∙◌}
use mathlib.Core.Bool.{Bool, true, false}
use mathlib.Core.Bool as Bool
use mathlib.Core.List.{List, map}
use Prim.Native.Nat.{ℕ, ◌≤◌, ◌<◌}
use native.Mathlib.Omega.{arith}
use lib.Dec.{ltb}
use lib.ListN.{length, get_or, length-map, get_or-eq_default}
use borrow.Author.Tests.{ltb-true, ltb-false}
use Rattle.seq.proofs.Tests.{cond-true}
use Rattle.seq.proofs.Members.{map_at}
use Rattle.def.specs.State.{no_slot, is_present, is_marked}
use Rattle.def.specs.declared.{Slot.Slot, RefpCall.RefpCall, Refusal.Refusal}
use Rattle.keys.specs.Keys.{key_marked, slot_at}
use Rattle.ordering.specs.Order.{Key, key_of, down}
use Rattle.reasons.specs.declared.Reason.{Reason}
use Rattle.reasons.specs.Reasons.{judged_at, key_at, reason_for, of_slot}

module _ (rows keys : List ℕ) (slot : ℕ) where
  pub slot-there : slot < length keys → get_or (map (slot_at rows) keys) slot no_slot ≡ slot_at rows (get_or keys slot 0)
  slot-there h = map_at (slot_at rows) keys slot 0 no_slot h

  pub slot-missing : length keys ≤ slot → get_or (map (slot_at rows) keys) slot no_slot ≡ no_slot
  slot-missing h = get_or-eq_default (map (slot_at rows) keys) no_slot (let e = length-map keys (slot_at rows) in omega arith)

  pub held_below : is_present (get_or (map (slot_at rows) keys) slot no_slot) ≡ true → slot < length keys
  held_below e = pick (ltb slot (length keys)) refl
    where
      pick : (b : Bool) → ltb slot (length keys) ≡ b → slot < length keys
      pick true b = ltb-true slot (length keys) b
      pick false b = absurd (Bool.true≢false (sym e ∙ ap (λ (x : Slot). x.present) (slot-missing (ltb-false slot (length keys) b))))

-- ---- the answer for a slot that holds a picture

module _ (c : RefpCall) (rows keys : List ℕ) (slot : ℕ) (held : is_present (get_or (map (slot_at rows) keys) slot no_slot) ≡ true) where
  abbrev slots_of : List Slot
  slots_of = map (slot_at rows) keys

  there : get_or (map (slot_at rows) keys) slot no_slot ≡ slot_at rows (get_or keys slot 0)
  there = slot-there rows keys slot (held_below rows keys slot held)

  told : (r : Reason) → r ≡ reason_for c slots_of slot → Ok r ≡ of_slot slots_of slot (reason_for c slots_of slot)
  told r e = ap {B = Result Reason Refusal} Ok e ∙ sym (cond-true (Ok (reason_for c slots_of slot)) (Err Refusal.NoSuchPlace) held)

  pub told-not-marked : key_marked (get_or keys slot 0) ≡ false → Ok Reason.NotMarked ≡ of_slot slots_of slot (reason_for c slots_of slot)
  unfolding reason_for judged_at
  told-not-marked e =
      let m : is_marked (get_or (map (slot_at rows) keys) slot no_slot) ≡ false = ap is_marked there ∙ e in
      told Reason.NotMarked (λ i. judged_at c (sym m i) (down slots_of) (key_at slots_of slot))

  pub told-reason : {r : Reason} {ks : List Key} → key_marked (get_or keys slot 0) ≡ true → ks ≡ down (map (slot_at rows) keys)
      → r ≡ judged_at c true ks (key_of slot (slot_at rows (get_or keys slot 0))) → Ok r ≡ of_slot slots_of slot (reason_for c slots_of slot)
  unfolding reason_for
  told-reason {r} e o q =
      let m : is_marked (get_or (map (slot_at rows) keys) slot no_slot) ≡ true = ap is_marked there ∙ e in
      told r (q ∙ (λ i. judged_at c (sym m i) (o i) (key_of slot (sym there i))))
