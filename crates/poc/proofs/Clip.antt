-- The numbers of a clip: each sub-group's lie above the number that it starts from and at most at its own, where the next one starts.
-- Assumes nothing.
use mathlib.Core.Path.{◌≡◌, refl, sym, ap, ◌∙◌, subst}
use mathlib.Core.Bool.{Bool, true, false}
use mathlib.Core.List.Memᴰ
use mathlib.Core.List.{List, [], ◌∷◌, ◌++◌, map, Memᴰ, map-append}
use mathlib.Core.Logic.{⊎_elim}
use Prim.Native.Nat.{ℕ, ◌-◌, ◌≤◌, ◌<◌}
use native.Mathlib.Omega.{arith}
use lib.IntN.{ℤ, pos}
use lib.Pow.{pow_pos}
use Rattle.seq.specs.Lists.{Distinct}
use Rattle.seq.proofs.Members.{mem-unmap, select-append, holds-tail}
use Rattle.seq.proofs.Distinct.{distinct_append}
use Rattle.def.specs.declared.EvcPoc.{EvcPoc}
use Rattle.poc.specs.Distance.{Call, Step, step, run, is_accepted, accepted_steps, number_of, SubGroup}
use Rattle.poc.specs.Clip.{leaves, Clip, ended, group, ClipRule}
use Rattle.poc.proofs.Differences.{pos_inj, sub-pos, sub_of}
use Rattle.poc.proofs.Answers.{accepted-yes, accepted-no, refused-keeps}
use Rattle.poc.proofs.Climb.{walk-fits}
use Rattle.poc.proofs.Apart.{opening, group-previous, group-after, group-walk, distance-rule}

-- ---- a list in two parts

run-append : (r : EvcPoc) (cs ds : List Call) → run r (cs ++ ds) ≡ run r cs ++ run (leaves r cs) ds
unfolding run leaves
run-append r [] ds = refl
run-append r (c ∷ cs) ds = ap {B = List Step} (λ l. step r c ∷ l) (run-append (step r c).after cs ds)

pub accepted-append : (r : EvcPoc) (cs ds : List Call) → accepted_steps r (cs ++ ds) ≡ accepted_steps r cs ++ accepted_steps (leaves r cs) ds
unfolding accepted_steps
accepted-append r cs ds = rw (run-append r cs ds) (select-append is_accepted (run r cs) (run (leaves r cs) ds))

-- where every accepted call keeps the previous number, the list does
leaves-previous : (p : ℕ) (cs : List Call) (r : EvcPoc) → r.prev_poc_val ≡ p
    → ((s : Step) → Memᴰ s (accepted_steps r cs) → s.after.prev_poc_val ≡ p) → (leaves r cs).prev_poc_val ≡ p
unfolding leaves
leaves-previous p [] r e kept = e
leaves-previous p (c ∷ cs) r e kept = pick (is_accepted (step r c)) refl (leaves-previous p cs (step r c).after)
  where
    pick : (b : Bool) → is_accepted (step r c) ≡ b
        → ((step r c).after.prev_poc_val ≡ p → ((s : Step) → Memᴰ s (accepted_steps (step r c).after cs) → s.after.prev_poc_val ≡ p)
        → (leaves (step r c).after cs).prev_poc_val ≡ p)
        → (leaves (step r c).after cs).prev_poc_val ≡ p
    pick true t below =
        let k = subst (λ (l : List Step). (s : Step) → Memᴰ s l → s.after.prev_poc_val ≡ p) (accepted-yes r c cs t) kept in
        below (k (step r c) (Memᴰ.head refl)) (holds-tail k)
    pick false t below =
        let q = refused-keeps c c.log2 c.layer r t in
        below (ap (λ x. x.prev_poc_val) q ∙ e)
        (subst (λ (l : List Step). (s : Step) → Memᴰ s l → s.after.prev_poc_val ≡ p)
        (accepted-no r c cs t ∙ sym (rw q)) kept)

-- ---- one sub-group

-- n lies above v, and is at most p.
pub record Upto (v p : ℕ) (n : ℤ) : Type 0 where
  pub value : ℕ
  pub is : n ≡ pos value
  pub above : v < value
  pub most : value ≤ p

module _ {L p : ℕ} {r : EvcPoc} {calls : List Call} (g : SubGroup L p r calls) where
  numbers-are : map number_of (accepted_steps r calls) ≡ pos p ∷ map number_of g.later
  numbers-are = rw (g.are, g.key_number)

  group-differ : Distinct (map number_of (accepted_steps r calls))
  group-differ = rw numbers-are (distance-rule L p r calls g).differ

  group-upto : (n : ℤ) → Memᴰ n (map number_of (accepted_steps r calls)) → Upto r.prev_poc_val p n
  group-upto n m = ⊎_elim key other (Memᴰ.cases_cons (rw numbers-are at m))
    where
      key : n ≡ pos p → Upto r.prev_poc_val p n
      key e =
          let h = group-previous g in
          let k = pow_pos L in
          record { value = p; is = e; above = omega arith; most = omega arith }

      other : Memᴰ n (map number_of g.later) → Upto r.prev_poc_val p n
      other m =
          let u = mem-unmap number_of g.later m in
          let b = (distance-rule L p r calls g).within u.0 u.1 in
          let h = group-previous g in
          let k = b.below_length in
          record {
            value = p - b.distance;
            is = u.2 ∙ sub_of (number_of u.0) b.distance p b.apart ∙ sub-pos p b.distance (omega arith);
            above = omega arith;
            most = omega arith;
          }

  group-leaves : (leaves r calls).prev_poc_val ≡ p
  group-leaves =
      ap (λ q. q.prev_poc_val) (opening g).ends
      ∙ leaves-previous p (opening g).behind (step r (opening g).first).after (group-after g).previous
      (λ s m. (walk-fits (group-walk g) s m).kept)

-- ---- the clip

numbers-append : (r : EvcPoc) (cs ds : List Call)
    → map number_of (accepted_steps r (cs ++ ds)) ≡ map number_of (accepted_steps r cs) ++ map number_of (accepted_steps (leaves r cs) ds)
numbers-append r cs ds = rw (accepted-append r cs ds) (map-append number_of (accepted_steps r cs) (accepted_steps (leaves r cs) ds))

-- every number of a clip lies above the previous number that it starts from
pub clip-above : {r : EvcPoc} {calls : List Call} → Clip r calls → (n : ℤ) → Memᴰ n (map number_of (accepted_steps r calls))
    → (p : ℕ) × Upto r.prev_poc_val p n
clip-above (ended none) n m = absurd (Memᴰ.not-nil (rw none at m))
clip-above (group {r = r} {calls = calls} {rest = rest} L p g c) n m =
    ⊎_elim (λ k. (p, group-upto g n k)) (λ k. higher (clip-above c n k))
    (Memᴰ.append_cases (map number_of (accepted_steps r calls)) (rw (numbers-append r calls rest) at m))
  where
    higher : (q : ℕ) × Upto (leaves r calls).prev_poc_val q n → (q : ℕ) × Upto r.prev_poc_val q n
    higher x =
        let u = x.1 in
        let e = group-leaves g in
        let h = group-previous g in
        let k = u.above in
        (x.0, record { value = u.value; is = u.is; above = omega arith; most = u.most })

pub clip-rule : ClipRule
unfolding Distinct
clip-rule _ _ (ended none) = rw none tt
clip-rule _ _ (group {r = r} {calls = calls} {rest = rest} L p g c) =
    rw (numbers-append r calls rest)
    (distinct_append (map number_of (accepted_steps r calls)) (map number_of (accepted_steps (leaves r calls) rest))
    (group-differ g) (clip-rule (leaves r calls) rest c) apart)
  where
    -- the sub-group's numbers are at most p, the later ones above it
    apart : (n : ℤ) → Memᴰ n (map number_of (accepted_steps r calls)) → Memᴰ n (map number_of (accepted_steps (leaves r calls) rest)) → ⊥
    apart n m k =
        let a = group-upto g n m in
        let b = (clip-above c n k).1 in
        let e = pos_inj a.value b.value (sym a.is ∙ b.is) in
        let f = group-leaves g in
        let x = a.most in
        let y = b.above in
        omega arith
