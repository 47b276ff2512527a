-- Along the accepted calls of a sub-group the previous number stays p and the decoding offset climbs: the i-th call of layer t,
-- from 0, gets the offset 2^(t-1) + i. Calls turned down change nothing. Assumes nothing.
use mathlib.Core.Path.{◌≡◌, refl, sym, ap, ◌∙◌, subst}
use mathlib.Core.Bool.{Bool, true, false, cond}
use mathlib.Core.List.Memᴰ
use mathlib.Core.List.{List, [], ◌∷◌, map, Memᴰ}
use mathlib.Core.Logic.{⊎_elim}
use Prim.Native.Nat.{ℕ, suc, ◌+◌, ◌-◌, ◌^◌, ◌≤◌, ◌<◌}
use native.Mathlib.Nat.{mod-eq_of_lt, eq-or-lt_of_le}
use native.Mathlib.Omega.{arith}
use lib.Dec.{eqb}
use lib.IntN.{pos}
use lib.Pow.{pow_pos, pow_mono, pow-lt}
use borrow.Author.Tests.{eq-eqb, ne_eqb}
use Rattle.seq.specs.Lists.{count_if, Rising}
use Rattle.seq.proofs.Tests.{lt-or-ge, count_yes, count_none, count-tail, rising_step, rising-from-zero}
use Rattle.seq.proofs.Members.{mem-unmap, holds-tail}
use Rattle.seq.proofs.Distinct.{Climbing}
use Rattle.def.specs.declared.EvcPoc.{EvcPoc}
use Rattle.poc.specs.PictureNumber.{Derivation}
use Rattle.poc.specs.PictureNumber.{derive, number, offset_of, offset_from, next_offset, next_previous}
use Rattle.poc.specs.Distance.{Call, Step, step, is_accepted, accepted_steps, number_of, layer_of, offset_after, LaterCalls, Origin}
use Rattle.poc.proofs.Offset.{Layer, first_of, offset_from-here, offset_from-else}
use Rattle.poc.proofs.Seek.{twice}
use Rattle.poc.proofs.Answers.{step_of, derived, accepted-is, accepted-yes, accepted-no}

-- The decoding offset that a call leaves.
abbrev pub doc_after : Step → ℕ
doc_after s = offset_of (offset_after s)

-- An accepted call has its number from its layer and the offset it leaves, and leaves the previous number p.
pub record Fits (L p : ℕ) (s : Step) : Type 0 where
  pub origin : Origin L p (number_of s) (layer_of s) (doc_after s)
  pub offset : offset_after s ≡ pos (doc_after s)
  pub kept : s.after.prev_poc_val ≡ p

-- The offsets of the calls climb from d.
pub data Walk (L p : ℕ) : ℕ → List Step → Type 0 where
  stop : {d : ℕ} → Walk L p d []
  on : {d : ℕ} {s : Step} {ss : List Step} → d < doc_after s → Fits L p s → Walk L p (doc_after s) ss → Walk L p d (s ∷ ss)

-- ---- where the record stands, and what may still come

-- After a call of layer t that left the offset d, with room for m calls more of that layer. Layer 0 has room for none.
pub record Place (p t m d : ℕ) (r : EvcPoc) : Type 0 where
  pub previous : r.prev_poc_val ≡ p
  pub offset : r.prev_doc_offset.0 ≡ pos d
  pub low : 2 ^ (t - 1) ≤ d + 1
  pub top : d + 1 + m ≡ 2 ^ t

-- The accepted calls still to come.
pub record Rest (L t m : ℕ) (ss : List Step) : Type 0 where
  pub same_length : (s : Step) → Memᴰ s ss → s.call.log2 ≡ L
  pub layers : (s : Step) → Memᴰ s ss → (1 ≤ layer_of s) × (layer_of s ≤ L)
  pub never_fall : Rising (t ∷ map layer_of ss)
  pub of-this : count_if (eqb t) (map layer_of ss) ≤ m
  pub of-higher : (u : ℕ) → t < u → count_if (eqb u) (map layer_of ss) ≤ 2 ^ (u - 1)

-- right after a picture of layer 0 every later call of a sub-group is still to come
pub later-rest : (L : ℕ) (ss : List Step) → LaterCalls L ss → Rest L 0 0 ss
later-rest L ss h =
    record {
      same_length = h.same_length;
      layers = h.layers;
      never_fall = rising-from-zero (map layer_of ss) h.never_fall;
      of-this = let e = count_none (eqb 0) (map layer_of ss) none in omega arith;
      of-higher = λ u k. let e = h.at_most u in omega arith;
    }
  where
    none : (t : ℕ) → Memᴰ t (map layer_of ss) → eqb 0 t ≡ false
    none t m =
        let u = mem-unmap layer_of ss m in
        let w = (h.layers u.0 u.1).0 in
        let q = u.2 in
        ne_eqb 0 t (omega arith)

-- ---- one accepted call

-- What an accepted call makes of such a place; `left` is the room that its layer has then.
pub record Advance (L p t m d : ℕ) (s : Step) : Type 0 where
  pub left : ℕ
  pub fits : Fits L p s
  pub climbs : d < doc_after s
  pub place : Place p (layer_of s) left (doc_after s) s.after
  pub again : layer_of s ≡ t → suc left ≡ m
  pub anew : t < layer_of s → suc left ≡ 2 ^ (layer_of s - 1)

module _ (L p t m d : ℕ) (r : EvcPoc) (at : Place p t m d r) where
  pub next-offset : d + 1 < 2 ^ L → next_offset L r ≡ d + 1
  next-offset h = rw at.offset (mod-eq_of_lt h)

  pub next-previous : d + 1 < 2 ^ L → next_previous L r ≡ p
  next-previous h = rw (next-offset h, ne_eqb (d + 1) 0 (omega arith)) at.previous

  module _ (c : Call) (len : c.log2 ≡ L) (above : 1 ≤ c.layer) (most : c.layer ≤ L) (ok : is_accepted (step r c) ≡ true) where
    -- the call, where the search from d + 1 ends at e
    stepped : (e : ℕ) → d + 1 < 2 ^ L → offset_from L c.layer (d + 1) ≡ e → step r c ≡ step_of c (derived (number p L c.layer e) p e)
    stepped e h q =
        a
        ∙ ap (λ x. step_of c x)
        (accepted-is c L c.layer r (ap is_accepted (sym a) ∙ ok)
        ∙ ap
        (λ b. cond b (derived (pos (r.prev_poc_val + 2 ^ L)) (r.prev_poc_val + 2 ^ L) 0)
        (found (next_previous L r) (offset_from L c.layer (next_offset L r))))
        (ne_eqb c.layer 0 (omega arith))
        ∙ ap (λ v. found v (offset_from L c.layer (next_offset L r))) (next-previous h)
        ∙ ap (λ x. found p x) (ap (λ x. offset_from L c.layer x) (next-offset h) ∙ q))
      where
        a : step r c ≡ step_of c (derive L c.layer r)
        a = rw len

        found : ℕ → ℕ → Derivation
        found v x = derived (number v L c.layer x) v x

    advance : (e left : ℕ) → d + 1 < 2 ^ L → offset_from L c.layer (d + 1) ≡ e → Layer c.layer e → d < e → e + 1 + left ≡ 2 ^ c.layer
        → (c.layer ≡ t → suc left ≡ m) → (t < c.layer → suc left ≡ 2 ^ (c.layer - 1)) → Advance L p t m d (step r c)
    advance e left h q l k full again anew =
        rw (stepped e h q)
        (record {
          left = left;
          fits =
              record {
                origin = record { layer_low = above; layer_high = most; offset_low = l.low; offset_high = l.high; gives = refl };
                offset = refl;
                kept = refl;
              };
          climbs = k;
          place = record { previous = refl; offset = refl; low = let a = l.low in omega arith; top = full };
          again = again;
          anew = anew;
        })

    -- another call of the layer
    same-layer : c.layer ≡ t → 1 ≤ m → Advance L p t m d (step r c)
    same-layer e h =
        let f = at.top in
        let g = at.low in
        let k = pow_mono most in
        let q = ap (λ (x : ℕ). 2 ^ x) e in
        let v = ap (λ (x : ℕ). 2 ^ (x - 1)) e in
        let l : Layer c.layer (d + 1) = record { low = omega arith; high = omega arith } in
        advance (d + 1) (m - 1) (omega arith) (offset_from-here L c.layer above most (d + 1) l) l (omega arith) (omega arith)
        (λ _. omega arith) (λ b. absurd (omega arith))

    -- the first of a higher layer
    higher-layer : t < c.layer → Advance L p t m d (step r c)
    higher-layer h =
        let f = at.top in
        let k : 2 ^ t ≤ 2 ^ (c.layer - 1) = pow_mono (omega arith) in
        let g : 2 ^ (c.layer - 1) < 2 ^ L = pow-lt (omega arith) in
        let v = twice c.layer above in
        let w = pow_pos (c.layer - 1) in
        advance (2 ^ (c.layer - 1)) (2 ^ (c.layer - 1) - 1) (omega arith) lands (first_of c.layer above) (omega arith) (omega arith)
        (λ b. absurd (omega arith)) (λ _. omega arith)
      where
        below : d + 1 < 2 ^ (c.layer - 1) → offset_from L c.layer (d + 1) ≡ 2 ^ (c.layer - 1)
        below k =
            let g : 2 ^ (c.layer - 1) < 2 ^ L = pow-lt (omega arith) in
            offset_from-else L c.layer above most (d + 1) (omega arith) (λ l. let a = l.low in omega arith)

        reached : 2 ^ (c.layer - 1) ≤ d + 1 → offset_from L c.layer (d + 1) ≡ 2 ^ (c.layer - 1)
        reached g =
            let f = at.top in
            let k : 2 ^ t ≤ 2 ^ (c.layer - 1) = pow_mono (omega arith) in
            let e : d + 1 ≡ 2 ^ (c.layer - 1) = omega arith in
            rw e (offset_from-here L c.layer above most (2 ^ (c.layer - 1)) (first_of c.layer above))

        lands : offset_from L c.layer (d + 1) ≡ 2 ^ (c.layer - 1)
        lands = ⊎_elim below reached (lt-or-ge (d + 1) (2 ^ (c.layer - 1)))

-- ---- the list

-- what is left after the first of the accepted calls
pub rest-tail : (L p t m d : ℕ) (s : Step) (ss : List Step) → Rest L t m (s ∷ ss) → (a : Advance L p t m d s) → Rest L (layer_of s) a.left ss
rest-tail L p t m d s ss h a =
    record {
      same_length = holds-tail h.same_length;
      layers = holds-tail h.layers;
      never_fall = r.1;
      of-this = ⊎_elim again anew (eq-or-lt_of_le r.0);
      of-higher = λ u k. let b = count-tail (eqb u) (layer_of s) (map layer_of ss) in let e = h.of-higher u (let f = r.0 in omega arith) in omega arith;
    }
  where
    r : (t ≤ layer_of s) × Rising (layer_of s ∷ map layer_of ss)
    r = rising_step t (layer_of s) (map layer_of ss) h.never_fall

    again : t ≡ layer_of s → count_if (eqb (layer_of s)) (map layer_of ss) ≤ a.left
    again e =
        let b = count_yes (eqb t) (layer_of s) (map layer_of ss) (eq-eqb t (layer_of s) e) in
        let f = h.of-this in
        let g = a.again (sym e) in
        rw (← e) (omega arith)

    anew : t < layer_of s → count_if (eqb (layer_of s)) (map layer_of ss) ≤ a.left
    anew k =
        let b = count_yes (eqb (layer_of s)) (layer_of s) (map layer_of ss) (eq-eqb (layer_of s) (layer_of s) refl) in
        let f = h.of-higher (layer_of s) k in
        let g = a.anew k in
        omega arith

-- the first of the accepted calls, by its layer
pub advances : (L p t m d : ℕ) (r : EvcPoc) (c : Call) (ss : List Step) → Place p t m d r → is_accepted (step r c) ≡ true → Rest L t m (step r c ∷ ss)
    → Advance L p t m d (step r c)
advances L p t m d r c ss at ok h =
    let w = h.layers (step r c) (Memᴰ.head refl) in
    let len = h.same_length (step r c) (Memᴰ.head refl) in
    ⊎_elim
    (λ e. same-layer L p t m d r at c len w.0 w.1 ok (sym e)
    (let b = count_yes (eqb t) c.layer (map layer_of ss) (eq-eqb t c.layer e) in let f = h.of-this in omega arith))
    (λ k. higher-layer L p t m d r at c len w.0 w.1 ok k)
    (eq-or-lt_of_le (rising_step t c.layer (map layer_of ss) h.never_fall).0)

pub walk : (cs : List Call) (L p t m d : ℕ) (r : EvcPoc) → Place p t m d r → Rest L t m (accepted_steps r cs) → Walk L p d (accepted_steps r cs)
unfolding accepted_steps
walk [] L p t m d r at h = stop
walk (c ∷ cs) L p t m d r at h = pick (is_accepted (step r c)) refl (walk cs)
  where
    pick : (b : Bool) → is_accepted (step r c) ≡ b
        → ((L p t m d : ℕ) (r : EvcPoc) → Place p t m d r → Rest L t m (accepted_steps r cs) → Walk L p d (accepted_steps r cs))
        → Walk L p d (accepted_steps r (c ∷ cs))
    pick true e below =
        let q = accepted-yes r c cs e in
        let h' = subst (λ (l : List Step). Rest L t m l) q h in
        let a = advances L p t m d r c (accepted_steps (step r c).after cs) at e h' in
        subst (λ (l : List Step). Walk L p d l) (sym q)
        (on a.climbs a.fits (below L p c.layer a.left (doc_after (step r c)) (step r c).after a.place
        (rest-tail L p t m d (step r c) (accepted_steps (step r c).after cs) h' a)))
    pick false e below =
        let q = accepted-no r c cs e in
        subst (λ (l : List Step). Walk L p d l) (sym q) (below L p t m d r at (subst (λ (l : List Step). Rest L t m l) q h))

-- ---- what a walk says of all its calls

pub walk-fits : {L p d : ℕ} {ss : List Step} → Walk L p d ss → (s : Step) → Memᴰ s ss → Fits L p s
walk-fits stop s m = absurd (Memᴰ.not-nil m)
walk-fits {L} {p} (on k f w) s m = ⊎_elim (λ e. subst (λ (x : Step). Fits L p x) (sym e) f) (λ n. walk-fits w s n) (Memᴰ.cases_cons m)

pub walk-climbs : {L p d : ℕ} {ss : List Step} → Walk L p d ss → Climbing d (map doc_after ss)
unfolding Climbing
walk-climbs stop = tt
walk-climbs (on k f w) = (k, walk-climbs w)
