-- A picture's turn and the forward list: what is taken at its turn stands there at the end of the list as it was then, and what is not taken at
-- its turn stands nowhere. Assumes nothing.
use native.Mathlib.Omega.{arith}
use mathlib.Core.Path.{◌≡◌, refl, sym, ap, ◌∙◌, subst}
use mathlib.Core.Bool.{Bool, true, false, cond}
use mathlib.Core.Bool as Bool
use mathlib.Core.List.{List, [], ◌∷◌, ◌++◌, append_assoc, Memᴰ}
use mathlib.Core.Logic.{⊎_elim}
use Prim.Native.Nat.{ℕ}
use lib.Dec.{eqb, ltb}
use lib.ListN.{length}
use borrow.Author.Tests.{eqb-true, eq-eqb}
use Rattle.seq.specs.Lists.{Distinct}
use Rattle.seq.proofs.Distinct.{distinct_apart, distinct-right}
use Rattle.seq.proofs.Orders.{sublist-mem}
use Rattle.def.specs.declared.{RefpCall.RefpCall, SliceType.SliceType}
use Rattle.ordering.specs.Order.{Key}
use Rattle.passes.specs.declared.Direction.{Direction}
use Rattle.passes.specs.Passes.{Ask, Progress, walked, takes_key, step_on, pass_on, pass, both_ways}
use Rattle.ruling.specs.Rules.{ask_of}
use Rattle.passes.proofs.PassLaws.{pass-appends, step-takes, step-leaves}
use Rattle.passes.proofs.Taken.{pass-grows, grows}
use Rattle.passes.proofs.Sides.{one_side}
use Rattle.passes.proofs.Walked.{walked-distinct}
use Rattle.choosing.specs.Choice.{is_b, forward_of}
use Rattle.reasons.specs.Reasons.{turn_of, in_front, pass_begins, at_turn}

-- ---- where the picture stands in the walk

pub record Stands (slot : ℕ) (k : Key) (ws : List Key) : Type 0 where
  pub behind : List Key
  pub split : ws ≡ in_front slot ws ++ (k ∷ behind)

module _ {slot : ℕ} {k : Key} (here : k.slot ≡ slot) where
  stands-behind : {w : Key} {ws : List Key} → eqb w.slot slot ≡ false → Stands slot k ws → Stands slot k (w ∷ ws)
  unfolding in_front
  stands-behind {w} e s = record { behind = s.behind; split = rw e (ap {B = List Key} (λ l. w ∷ l) s.split) }

  pub stands-in : (ws : List Key) → ((h : Key) → Memᴰ h ws → h.slot ≡ slot → h ≡ k) → Memᴰ k ws → Stands slot k ws
  unfolding in_front
  stands-in [] one m = absurd (mathlib.Core.List.Memᴰ.not-nil m)
  stands-in (w ∷ ws) one m = pick (eqb w.slot slot) refl (stands-in ws (λ h n. one h (mathlib.Core.List.Memᴰ.tail n)))
    where
      later : eqb w.slot slot ≡ false → Memᴰ k ws
      later e =
          ⊎_elim (λ q. absurd (Bool.true≢false (sym (eq-eqb w.slot slot (rw (← q) here)) ∙ e)))
          (λ n. n) (mathlib.Core.List.Memᴰ.cases_cons m)

      pick : (b : Bool) → eqb w.slot slot ≡ b → (Memᴰ k ws → Stands slot k ws) → Stands slot k (w ∷ ws)
      pick true e rest =
          let q : w ≡ k = one w (mathlib.Core.List.Memᴰ.head refl) (eqb-true w.slot slot e) in
          record { behind = ws; split = rw (e, q) }
      pick false e rest = stands-behind e (rest (later e))

-- ---- in one pass

module _ (a : Ask) (way : Direction) (p : Progress) {slot : ℕ} {k : Key} {ws : List Key} (s : Stands slot k ws) where
  abbrev turn : Progress
  turn = pass_on a way p (in_front slot ws)

  goes_on : pass_on a way p ws ≡ pass_on a way (step_on a way turn k) s.behind
  unfolding pass_on
  goes_on = ap (pass_on a way p) s.split ∙ pass-appends a way p (in_front slot ws) (k ∷ s.behind)

  pass-takes : takes_key a way (length turn.list) turn.bound k ≡ true → (more : List Key) × ((pass_on a way p ws).list ≡ turn.list ++ (k ∷ more))
  pass-takes t =
      let q : Progress = record { list = turn.list ++ (k ∷ []); bound = a.after k.layer } in
      let g = pass-grows a way q s.behind in (
        g.more,
        ap (λ (x : Progress). x.list) (goes_on ∙ ap (λ (x : Progress). pass_on a way x s.behind) (step-takes a way turn k t))
            ∙ g.split
            ∙ append_assoc turn.list (k ∷ []) g.more,
      )

  pass-leaves : Distinct ws → takes_key a way (length turn.list) turn.bound k ≡ false → Memᴰ k (pass_on a way p ws).list → Memᴰ k p.list
  unfolding Distinct
  pass-leaves d t m =
      let e : (pass_on a way p ws).list ≡ (pass_on a way turn s.behind).list =
      ap (λ (x : Progress). x.list) (goes_on ∙ ap (λ (x : Progress). pass_on a way x s.behind) (step-leaves a way turn k t)) in
      let g = pass-grows a way turn s.behind in
      let h = pass-grows a way p (in_front slot ws) in
      let parts = subst (Distinct {A = Key}) s.split d in
      ⊎_elim
      (λ n. ⊎_elim (λ o. o) (λ o. absurd (distinct_apart (in_front slot ws) (k ∷ s.behind) parts k (sublist-mem h.inside o) (mathlib.Core.List.Memᴰ.head refl)))
      (mathlib.Core.List.Memᴰ.append_cases p.list (subst (Memᴰ k) h.split n)))
      (λ n. absurd ((distinct-right (in_front slot ws) (k ∷ s.behind) parts).0 (sublist-mem g.inside n)))
      (mathlib.Core.List.Memᴰ.append_cases turn.list (subst (Memᴰ k) (e ∙ g.split) m))

-- ---- in the forward list

abbrev pub forward_on : Ask → Bool → List Key → List Key
forward_on a both ks = cond both (both_ways a Direction.Down ks) (pass a Direction.Down ks [])

pub forward-on : (c : RefpCall) (ks : List Key) → forward_of c ks ≡ forward_on (ask_of c) (is_b c.slice_type) ks
forward-on c ks = pick c.slice_type refl
  where
    pick : (s : SliceType) → c.slice_type ≡ s → forward_of c ks ≡ forward_on (ask_of c) (is_b c.slice_type) ks
    pick SliceType.EVC_ST_UNKNOWN e = rw e
    pick SliceType.EVC_ST_I e = rw e
    pick SliceType.EVC_ST_P e = rw e
    pick SliceType.EVC_ST_B e = rw e

not-up : Direction.Down ≡ Direction.Up → ⊥
not-up e = let z : ◌≡◌ {A = ℕ} 0 1 = cc in omega arith

goes-up : (b : Bool) → cond b Direction.Up Direction.Down ≡ Direction.Up → b ≡ true
goes-up true e = refl
goes-up false e = absurd (not-up e)

goes-down : (b : Bool) → cond b Direction.Up Direction.Down ≡ Direction.Down → b ≡ false
goes-down true e = absurd (not-up (sym e))
goes-down false e = refl

module _ (a : Ask) {slot : ℕ} {k : Key} (ks : List Key) (standing : (way : Direction) → Stands slot k (walked way ks)) where
  down-takes : takes_key a Direction.Down (length (at_turn a Direction.Down slot ks).list) (at_turn a Direction.Down slot ks).bound k ≡ true
      → (more : List Key) × (pass a Direction.Down ks [] ≡ (at_turn a Direction.Down slot ks).list ++ (k ∷ more))
  unfolding at_turn pass
  down-takes t = pass-takes a Direction.Down (pass_begins a Direction.Down ks) (standing Direction.Down) t

  pub at_place : (both : Bool) (way : Direction) → turn_of both a.poc k ≡ way → takes_key a way (length (at_turn a way slot ks).list) (at_turn a way slot ks).bound k ≡ true
      → (more : List Key) × (forward_on a both ks ≡ (at_turn a way slot ks).list ++ (k ∷ more))
  unfolding at_turn pass
  at_place true Direction.Up e t = pass-takes a Direction.Up (pass_begins a Direction.Up ks) (standing Direction.Up) t
  at_place true Direction.Down e t =
      let d = down-takes t in
      let g = grows a Direction.Up ks (pass a Direction.Down ks []) in
      (d.0 ++ g.more, g.split ∙ ap (λ (l : List Key). l ++ g.more) d.1 ∙ append_assoc (at_turn a Direction.Down slot ks).list (k ∷ d.0) g.more)
  at_place false Direction.Up e t = absurd (not-up e)
  at_place false Direction.Down e t = down-takes t

  pub nowhere : Distinct ks → (both : Bool) (way : Direction) → turn_of both a.poc k ≡ way
      → takes_key a way (length (at_turn a way slot ks).list) (at_turn a way slot ks).bound k ≡ false → Memᴰ k (forward_on a both ks) → ⊥
  unfolding at_turn pass
  nowhere d true Direction.Up e t m =
      let n : Memᴰ k (pass a Direction.Down ks []) = pass-leaves a Direction.Up (pass_begins a Direction.Up ks) (standing Direction.Up) (walked-distinct Direction.Up ks d) t m in
      let g = grows a Direction.Down ks [] in
      Bool.true≢false (sym (g.on-side k (subst (Memᴰ k) g.split n)) ∙ one_side Direction.Up a.poc k (goes-up (ltb a.poc k.poc) e))
  nowhere d true Direction.Down e t m =
      let g = grows a Direction.Up ks (pass a Direction.Down ks []) in
      ⊎_elim (λ n. mathlib.Core.List.Memᴰ.not-nil (pass-leaves a Direction.Down (pass_begins a Direction.Down ks) (standing Direction.Down) d t n))
      (λ n. Bool.true≢false (sym (g.on-side k n) ∙ goes-down (ltb a.poc k.poc) e))
      (mathlib.Core.List.Memᴰ.append_cases (pass a Direction.Down ks []) (subst (Memᴰ k) g.split m))
  nowhere d false Direction.Up e t m = not-up e
  nowhere d false Direction.Down e t m = mathlib.Core.List.Memᴰ.not-nil (pass-leaves a Direction.Down (pass_begins a Direction.Down ks) (standing Direction.Down) d t m)
