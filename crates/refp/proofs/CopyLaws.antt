-- What every copy does, each claim of specs/Claims.antt under its name. Assumes nothing.
use Rattle.std.specs.Prelude.{Ok, Err}
use mathlib.Core.Path.{◌≡◌, refl, subst}
use mathlib.Core.Bool.{Bool, true, false, cond, ◌||◌, or-true}
use mathlib.Core.List.{List}
use mathlib.Core.Logic.{inl, inr}
use Prim.Native.Nat.{ℕ, ◌+◌, ◌*◌, ◌≤◌}
use native.Mathlib.Omega.{arith}
use lib.Dec.{ltb, eqb}
use lib.ListN.{get_or, set}
use borrow.Author.Tests.{ltb-true, ltb-false, lt-ltb, le-ltb, eqb-true, eq-eqb}
use Rattle.seq.specs.Lists.{any_of, highest}
use Rattle.seq.proofs.Tests.{any-holds}
use Rattle.seq.proofs.Walks.{highest-passes}
use Rattle.seq.proofs.Members.{mem-at}
use Rattle.def.specs.State.{list_places, no_ref_p}
use Rattle.def.specs.declared.{EvcRefP.EvcRefP, Answer.Answer, Refusal.Refusal}
use Rattle.def.specs.Results.{CopyResult}
use Rattle.refp.specs.Copy.{first_entries, copy}
use Rattle.refp.specs.Claims.{CopyReason, no_place, same_number, CopyWhy, CopyRefusedUnchanged, CopyWrites}

-- The three ways in which a copy ends.
pub data CopyEnd (refp : List EvcRefP) (cnt lidx : ℕ) (src : EvcRefP) : CopyResult → Type 0 where
  refuses : (why : Refusal) → CopyReason refp cnt lidx src why → CopyEnd refp cnt lidx src (record { answer = Err why; refp = refp })
  copies : CopyEnd refp cnt lidx src (record { answer = Ok Answer.Done; refp = set refp (lidx * list_places + cnt) src })

module _ (refp : List EvcRefP) (cnt lidx : ℕ) (src : EvcRefP) where
  abbrev same : EvcRefP → Bool
  same e = eqb e.poc src.poc

  abbrev first : List EvcRefP
  first = first_entries refp cnt lidx

  one-has-it : cnt ≤ 20 → lidx ≤ 1 → any_of same first ≡ true → CopyReason refp cnt lidx src Refusal.SameNumber
  one-has-it f l t =
      let h = highest-passes no_ref_p same first t in
      let e : EvcRefP = get_or first (highest same first) no_ref_p in
      same_number f l e (mem-at first (highest same first) no_ref_p h.0) (eqb-true e.poc src.poc h.1)

  pub copy-end : CopyEnd refp cnt lidx src (copy refp cnt lidx src)
  unfolding copy
  copy-end = pick (ltb 20 cnt) refl (ltb 1 lidx) refl (any_of same first) refl
    where
      pick : (a : Bool) → ltb 20 cnt ≡ a → (b : Bool) → ltb 1 lidx ≡ b → (s : Bool) → any_of same first ≡ s
          → CopyEnd refp cnt lidx src (cond (a || b) (record { answer = Err Refusal.NoSuchPlace; refp = refp })
          (cond s (record { answer = Err Refusal.SameNumber; refp = refp })
          (record { answer = Ok Answer.Done; refp = set refp (lidx * list_places + cnt) src })))
      pick true p b q s e = refuses Refusal.NoSuchPlace (no_place (inl (ltb-true 20 cnt p)))
      pick false p true q s e = refuses Refusal.NoSuchPlace (no_place (inr (ltb-true 1 lidx q)))
      pick false p false q true e = refuses Refusal.SameNumber (one-has-it (ltb-false 20 cnt p) (ltb-false 1 lidx q) e)
      pick false p false q false e = copies

  reason-refuses : {why : Refusal} → CopyReason refp cnt lidx src why → copy refp cnt lidx src ≡ record { answer = Err why; refp = refp }
  unfolding copy
  reason-refuses (no_place (inl h)) = rw (lt-ltb 20 cnt h)
  reason-refuses (no_place (inr h)) = rw (lt-ltb 1 lidx h, or-true (ltb 20 cnt))
  reason-refuses (same_number f l e m s) =
      rw (le-ltb 20 cnt f, le-ltb 1 lidx l, any-holds same first m (eq-eqb e.poc src.poc s))

pub copy-why : CopyWhy
copy-why refp cnt lidx src why = (because (copy-end refp cnt lidx src), λ r. rw (reason-refuses refp cnt lidx src r))
  where
    because : {r : CopyResult} → CopyEnd refp cnt lidx src r → r.answer ≡ Err why → CopyReason refp cnt lidx src why
    because (refuses other k) e = let q : other ≡ why = cc in subst (CopyReason refp cnt lidx src) q k
    because copies e = let z : ◌≡◌ {A = ℕ} 0 1 = cc in absurd (omega arith)

pub copy-refused-unchanged : CopyRefusedUnchanged
copy-refused-unchanged refp cnt lidx src why a = rw (reason-refuses refp cnt lidx src ((copy-why refp cnt lidx src why).0 a))

pub copy-writes : CopyWrites
copy-writes refp cnt lidx src none = pick (copy-end refp cnt lidx src)
  where
    pick : {r : CopyResult} → CopyEnd refp cnt lidx src r → r ≡ record { answer = Ok Answer.Done; refp = set refp (lidx * list_places + cnt) src }
    pick (refuses why k) = absurd (none why k)
    pick copies = refl
