-- The reason that is given is the earliest of the row, and no other is. Assumes nothing.
use Rattle.std.proofs.Common.{Result, Ok, Err}
use mathlib.Core.Path.{◌≡◌, refl, sym, ap, ◌∙◌, subst}
use mathlib.Core.Bool.{Bool, true, false, cond, not, ◌&&◌}
use mathlib.Core.Bool as Bool
use mathlib.Core.List.{List}
use Prim.Native.Nat.{ℕ, zero, suc, ◌≤◌, ◌<◌}
use native.Mathlib.Omega.{arith}
use lib.Dec.{leb, ltb, eqb}
use lib.ListN.{length, get_or}
use borrow.Author.Tests.{leb-true, leb-false, ltb-true, ltb-false, lt-ltb, eqb-true, eqb-false}
use Rattle.seq.proofs.Tests.{and_left, and_right}
use Rattle.def.specs.State.{highest_poc, no_slot, is_present, is_marked}
use Rattle.def.specs.declared.{Slot.Slot, RefpCall.RefpCall, Refusal.Refusal}
use Rattle.whole.specs.Whole.{whole}
use Rattle.ordering.specs.Order.{Key}
use Rattle.passes.specs.declared.Direction.{Direction}
use Rattle.passes.specs.Passes.{Ask, side_of, takes_key}
use Rattle.ruling.specs.Rules.{ask_of}
use Rattle.choosing.specs.Choice.{is_b}
use Rattle.refp.specs.Lists.{is_i}
use Rattle.reasons.specs.declared.Reason.{Reason}
use Rattle.reasons.specs.Reasons.{turn_of, other_side, judged_at, key_at, reason_for}
use Rattle.reasons.specs.Claims.{AskedOfI, NoListExactly, Condition, row_place, Earliest, EachExactly, come_to}
use Rattle.reasons.proofs.Refusing.{WhyEnd, turned-away, for-i, judges, told-refused, why-end, none-for-i, is-judged}

-- The reason at a place of the row, where n is the place that 'taken' would tell.
reason_from : ℕ → ℕ → Reason
reason_from zero n = Reason.Taken n
reason_from (suc zero) n = Reason.NotMarked
reason_from (suc (suc zero)) n = Reason.Full
reason_from (suc (suc (suc zero))) n = Reason.Old
reason_from (suc (suc (suc (suc zero)))) n = Reason.SameNumber
reason_from (suc (suc (suc (suc (suc zero))))) n = Reason.OtherSide
reason_from (suc (suc (suc (suc (suc (suc zero)))))) n = Reason.LayerOverBound
reason_from (suc (suc (suc (suc (suc (suc (suc m))))))) n = Reason.NoListAsked

-- a picture of another number that is on no other side is on the side of the pass in which it has its turn
side-taken : (both : Bool) (poc : ℕ) (k : Key) → (k.poc ≡ poc → ⊥) → other_side both poc k ≡ false → side_of (turn_of both poc k) poc k ≡ true
side-taken false poc k other side = lt-ltb k.poc poc (let l = ltb-false poc k.poc side in omega (arith, other))
side-taken true poc k other side = pick (ltb poc k.poc) refl
  where
    pick : (h : Bool) → ltb poc k.poc ≡ h → side_of (cond h Direction.Up Direction.Down) poc k ≡ true
    pick true h = h
    pick false h = lt-ltb k.poc poc (let l = ltb-false poc k.poc h in omega (arith, other))

-- what is neither full, old, of the same number nor on another side, and is not taken, has its layer over the bound
layer-left : (a : Ask) (both : Bool) (cnt bound : ℕ) (k : Key) → takes_key a (turn_of both a.poc k) cnt bound k ≡ false → cnt < a.limit → a.old k ≡ false
    → (k.poc ≡ a.poc → ⊥) → other_side both a.poc k ≡ false → bound < k.layer
layer-left a both cnt bound k t room young other side = pick (leb k.layer bound) refl
  where
    pick : (w : Bool) → leb k.layer bound ≡ w → bound < k.layer
    pick true w =
        let e : takes_key a (turn_of both a.poc k) cnt bound k ≡ true = rw (lt-ltb cnt a.limit room, young, side-taken both a.poc k other side, w) in
        absurd (Bool.true≢false (sym e ∙ t))
    pick false w = leb-false k.layer bound w

module _ (c : RefpCall) (xs : List Slot) (slot : ℕ) where
  abbrev cnt : ℕ
  cnt = length (come_to c xs slot).list

  abbrev bound : ℕ
  bound = (come_to c xs slot).bound

  abbrev key : Key
  key = key_at xs slot

  abbrev both : Bool
  both = is_b c.slice_type

  abbrev ask : Ask
  ask = ask_of c

  -- a reason whose condition holds is told by its place
  placed : (q : Reason) → Condition c xs slot q → reason_from (row_place q) cnt ≡ q
  unfolding reason_from
  placed (Reason.Taken n) h = ap Reason.Taken (sym h.2)
  placed Reason.NotMarked h = refl
  placed Reason.Full h = refl
  placed Reason.Old h = refl
  placed Reason.SameNumber h = refl
  placed Reason.OtherSide h = refl
  placed Reason.LayerOverBound h = refl
  placed Reason.NoListAsked h = refl

  -- ---- none of the first n

  None : ℕ → Type 0
  None n = (q : Reason) → row_place q < n → Condition c xs slot q → ⊥

  none : None 0
  unfolding None
  none q l h = omega arith

  -- and not the next
  none_more : (n : ℕ) → None n → (Condition c xs slot (reason_from n cnt) → ⊥) → None (suc n)
  unfolding None
  none_more n before next q l h = pick (eqb (row_place q) n) refl
    where
      pick : (b : Bool) → eqb (row_place q) n ≡ b → ⊥
      pick true e = next (subst (Condition c xs slot) (sym (placed q h) ∙ ap (λ (m : ℕ). reason_from m cnt) (eqb-true (row_place q) n e)) h)
      pick false e = before q (let d = eqb-false (row_place q) n e in omega (arith, d)) h

  found : (r : Reason) → Condition c xs slot r → None (row_place r) → Earliest c xs slot r
  unfolding None
  found r h none = record { holds = h; none_before = none }

  -- ---- along the row

  abbrev takes : Bool
  takes = takes_key ask (turn_of both c.poc key) cnt bound key

  abbrev by_side : Reason
  by_side = cond (other_side both c.poc key) Reason.OtherSide Reason.LayerOverBound

  abbrev by_number : Reason
  by_number = cond (eqb key.poc c.poc) Reason.SameNumber by_side

  abbrev by_age : Reason
  by_age = cond (ask.old key) Reason.Old by_number

  abbrev by_room : Reason
  by_room = cond (leb ask.limit cnt) Reason.Full by_age

  earliest-given : Earliest c xs slot (reason_for c xs slot)
  unfolding reason_for judged_at None reason_from
  earliest-given = first (is_marked (get_or xs slot no_slot)) refl takes refl
    where
      last : takes ≡ false → None 5 → cnt < ask.limit → ask.old key ≡ false → (key.poc ≡ c.poc → ⊥) → (s : Bool) → other_side both c.poc key ≡ s
          → Earliest c xs slot (cond s Reason.OtherSide Reason.LayerOverBound)
      last t before room young other true s =
          let b = and_left (not both) (ltb c.poc key.poc) s in
          found Reason.OtherSide (is-not both b, ltb-true c.poc key.poc (and_right (not both) (ltb c.poc key.poc) s)) before
        where
          is-not : (b : Bool) → not b ≡ true → b ≡ false
          is-not true e = absurd (Bool.false≢true e)
          is-not false e = refl
      last t before room young other false s =
          found Reason.LayerOverBound (layer-left ask both cnt bound key t room young other s)
          (none_more 5 before
          (λ h. absurd (Bool.true≢false (let e : other_side both c.poc key ≡ true = rw (h.0, lt-ltb c.poc key.poc h.1) in sym e ∙ s))))

      fourth : takes ≡ false → None 4 → cnt < ask.limit → ask.old key ≡ false → (e : Bool) → eqb key.poc c.poc ≡ e
          → Earliest c xs slot (cond e Reason.SameNumber by_side)
      fourth t before room young true e = found Reason.SameNumber (eqb-true key.poc c.poc e) before
      fourth t before room young false e =
          let other = eqb-false key.poc c.poc e in last t (none_more 4 before other) room young other (other_side both c.poc key) refl

      third : takes ≡ false → None 3 → cnt < ask.limit → (o : Bool) → ask.old key ≡ o
          → Earliest c xs slot (cond o Reason.Old by_number)
      third t before room true o = found Reason.Old o before
      third t before room false o = fourth t (none_more 3 before (λ h. Bool.true≢false (sym h ∙ o))) room o (eqb key.poc c.poc) refl

      second : takes ≡ false → None 2 → (f : Bool) → leb ask.limit cnt ≡ f
          → Earliest c xs slot (cond f Reason.Full by_age)
      second t before true f = found Reason.Full (leb-true ask.limit cnt f) before
      second t before false f =
          let room = leb-false ask.limit cnt f in third t (none_more 2 before (λ h. omega arith)) room (ask.old key) refl

      first : (m : Bool) → is_marked (get_or xs slot no_slot) ≡ m → (t : Bool) → takes ≡ t
          → Earliest c xs slot (cond (m && t) (Reason.Taken cnt) (cond (not m) Reason.NotMarked by_room))
      first true m true t = found (Reason.Taken cnt) (m, t, refl) none
      first true m false t =
          second t (none_more 1 (none_more 0 none (λ h. Bool.true≢false (sym h.1 ∙ t))) (λ h. Bool.true≢false (sym m ∙ h))) (leb ask.limit cnt) refl
      first false m t u = found Reason.NotMarked m (none_more 0 none (λ h. Bool.true≢false (sym h.0 ∙ m)))

  -- two earliest ones are one
  pub one-earliest : (r q : Reason) → Earliest c xs slot r → Earliest c xs slot q → r ≡ q
  one-earliest r q e f = pick (ltb (row_place r) (row_place q)) refl (ltb (row_place q) (row_place r)) refl
    where
      pick : (a : Bool) → ltb (row_place r) (row_place q) ≡ a → (b : Bool) → ltb (row_place q) (row_place r) ≡ b → r ≡ q
      pick true a b g = absurd (f.none_before r (ltb-true (row_place r) (row_place q) a) e.holds)
      pick false a true g = absurd (e.none_before q (ltb-true (row_place q) (row_place r) g) f.holds)
      pick false a false g =
          let l = ltb-false (row_place r) (row_place q) a in
          let m = ltb-false (row_place q) (row_place r) g in
          let same : row_place r ≡ row_place q = omega arith in
          sym (placed r e.holds) ∙ ap (λ (n : ℕ). reason_from n cnt) same ∙ placed q f.holds

same-told : {r q : Reason} → ◌≡◌ {A = Result Reason Refusal} (Ok r) (Ok q) → r ≡ q
same-told e = cc

pub each-exactly : EachExactly
each-exactly pm refp c slot r asked = (
  λ e. subst (Earliest c pm.pic slot) (same-told (sym (is-judged pm c slot asked) ∙ e)) (earliest-given c pm.pic slot),
  λ h. is-judged pm c slot asked ∙ ap {B = Result Reason Refusal} Ok (one-earliest c pm.pic slot _ r (earliest-given c pm.pic slot) h),
)

-- ---- slice I

pub no-list-exactly : NoListExactly
no-list-exactly pm c slot = (asked (why-end pm c slot), λ a. told a (why-end pm c slot))
  where
    of-i : (b : Bool) → is_present (get_or pm.pic slot no_slot) ≡ b → whole pm ≡ true → c.poc ≤ highest_poc → is_i c.slice_type ≡ true
        → cond b (Ok Reason.NoListAsked) (Err Refusal.NoSuchPlace) ≡ Ok Reason.NoListAsked → AskedOfI pm c slot
    of-i true b w h i e = record { is_whole = w; number_fits = h; is_i = i; occupied = b }
    of-i false b w h i e = absurd (told-refused (sym e))

    not-judged : (b : Bool) → is_i c.slice_type ≡ false
        → cond b (Ok (reason_for c pm.pic slot)) (Err Refusal.NoSuchPlace) ≡ Ok Reason.NoListAsked → ⊥
    not-judged true i e = Bool.true≢false (sym (subst (Earliest c pm.pic slot) (same-told e) (earliest-given c pm.pic slot)).holds ∙ i)
    not-judged false i e = told-refused (sym e)

    asked : {a : Result Reason Refusal} → WhyEnd pm c slot a → a ≡ Ok Reason.NoListAsked → AskedOfI pm c slot
    asked (turned-away r k) e = absurd (told-refused (sym e))
    asked (for-i w h i) e = of-i (is_present (get_or pm.pic slot no_slot)) refl w h i e
    asked (judges a fwd bwd g) e = absurd (not-judged (is_present (get_or pm.pic slot no_slot)) a.not_i e)

    told : {a : Result Reason Refusal} → AskedOfI pm c slot → WhyEnd pm c slot a → a ≡ Ok Reason.NoListAsked
    told q (turned-away r k) = absurd (none-for-i pm c slot q.is_whole q.number_fits q.is_i r k)
    told q (for-i w h i) = rw q.occupied
    told q (judges a fwd bwd g) = absurd (Bool.true≢false (sym q.is_i ∙ a.not_i))
