-- What it means that both lists were chosen, and what they hold then. Assumes nothing.
use mathlib.Core.Path.{◌≡◌, refl, sym, ap, ◌∙◌, subst}
use mathlib.Core.Bool.{Bool, true, false, cond}
use mathlib.Core.List.{List, []}
use Prim.Native.Nat.{ℕ}
use native.Mathlib.Omega.{arith}
use lib.Dec.{ltb, eqb}
use lib.ListN.{length}
use borrow.Author.Tests.{ltb-false, eqb-false}
use Rattle.def.specs.declared.RefpCall.{RefpCall}
use Rattle.def.specs.declared.Refusal.{Refusal}
use Rattle.def.specs.declared.Refusal.TheVariants.{TooManyReferences, NoReferences, ForwardListEmpty}
use Rattle.def.specs.State.{list_places}
use Rattle.passes.specs.declared.Walk.{Walk}
use Rattle.ordering.specs.Order.{Key}
use Rattle.ruling.specs.Rules.{ask_of}
use Rattle.choosing.specs.Choice.{turned_down, chosen, is_b, forward_walk, forward_of, backward_of, with_forward, choice, Backward, of_b, of_other, Accepted}
use Rattle.choosing.proofs.BackwardSome.{backward-some}
use Rattle.passes.proofs.Taken.{Taken, none-taken, list-taken}

clash : {why : Refusal} {f b : List Key} → turned_down why ≡ chosen f b → ⊥
clash e = let z : ◌≡◌ {A = ℕ} 0 1 = cc in omega arith

module _ (c : RefpCall) (ks fwd bwd : List Key) where
  on-forward : with_forward (is_b c.slice_type) (backward_of c ks) (forward_of c ks) ≡ chosen fwd bwd
      → (forward_of c ks ≡ fwd) × (length fwd ≡ 0 → ⊥) × Backward c ks bwd
  on-forward e = go (eqb (length (forward_of c ks)) 0) (is_b c.slice_type) refl refl e
    where
      some : eqb (length (forward_of c ks)) 0 ≡ false → length (forward_of c ks) ≡ 0 → ⊥
      some n = eqb-false (length (forward_of c ks)) 0 n

      go : (z b : Bool) → eqb (length (forward_of c ks)) 0 ≡ z → is_b c.slice_type ≡ b
          → cond z (turned_down ForwardListEmpty) (chosen (forward_of c ks) (cond b (backward_of c ks) [])) ≡ chosen fwd bwd
          → (forward_of c ks ≡ fwd) × (length fwd ≡ 0 → ⊥) × Backward c ks bwd
      go true b n t e = absurd (clash e)
      go false true n t e =
          let f : forward_of c ks ≡ fwd = cc in
          let s : backward_of c ks ≡ bwd = cc in
          (f, λ z. some n (ap length f ∙ z), of_b t s (λ z. backward-some c ks t (some n) (ap length s ∙ z)))
      go false false n t e =
          let f : forward_of c ks ≡ fwd = cc in
          let s : [] ≡ bwd = cc in
          (f, λ z. some n (ap length f ∙ z), of_other t (sym s))

  pub accepted : choice c ks ≡ chosen fwd bwd → Accepted c ks fwd bwd
  unfolding choice
  accepted e = go (ltb list_places (length ks)) (eqb (length ks) 0) refl refl e
    where
      go : (m z : Bool) → ltb list_places (length ks) ≡ m → eqb (length ks) 0 ≡ z
          → cond m (turned_down TooManyReferences)
          (cond z (turned_down NoReferences) (with_forward (is_b c.slice_type) (backward_of c ks) (forward_of c ks)))
          ≡ chosen fwd bwd
          → Accepted c ks fwd bwd
      go true z p q e = absurd (clash e)
      go false true p q e = absurd (clash e)
      go false false p q e =
          let r = on-forward e in
          record { at_most = ltb-false list_places (length ks) p; some = eqb-false (length ks) 0 q; forward_is = r.0; forward_some = r.1; backward_is = r.2 }

  -- Both lists hold keys of the order, none twice, at most as many as the limit and as there are keys.
  pub forward-taken : Accepted c ks fwd bwd → Taken c.max_num_ref_pics ks fwd
  forward-taken w = subst (Taken c.max_num_ref_pics ks) w.forward_is (list-taken (ask_of c) (forward_walk c.slice_type) ks)

  pub backward-taken : Accepted c ks fwd bwd → Taken c.max_num_ref_pics ks bwd
  backward-taken w = go w.backward_is
    where
      go : Backward c ks bwd → Taken c.max_num_ref_pics ks bwd
      go (of_b t r n) = subst (Taken c.max_num_ref_pics ks) r (list-taken (ask_of c) Walk.UpThenDown ks)
      go (of_other t e) = subst (Taken c.max_num_ref_pics ks) (sym e) (none-taken c.max_num_ref_pics ks)
