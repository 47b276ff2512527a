-- Demand 3, proved: the numbers of one sub-group never meet, all but the first lie strictly between p - 2^L and p, a full run
-- meets each of those once, and each comes from one layer and one decoding offset. Assumes nothing.
use mathlib.Core.Path.{◌≡◌, refl, sym, ap, ap₂, ◌∙◌, subst}
use mathlib.Core.Bool.{Bool, true, false}
use mathlib.Core.List.Memᴰ
use mathlib.Core.List.{List, [], ◌∷◌, map, Memᴰ}
use mathlib.Core.Logic.{⊎_elim}
use Prim.Native.Nat.{ℕ, ◌+◌, ◌-◌, ◌^◌, ◌≤◌, ◌<◌}
use native.Mathlib.Omega.{arith}
use lib.IntN.{ℤ, pos}
use lib.ListN.{length, length-map}
use lib.Pow.{pow_pos, pow_mono}
use Rattle.seq.specs.Lists.{Distinct, Once}
use Rattle.seq.proofs.Members.{mem-unmap, holds-cons}
use Rattle.seq.proofs.Distinct.{distinct-by, climbing-above, climbing-distinct, all-met, once}
use Rattle.def.specs.declared.EvcPoc.{EvcPoc}
use Rattle.poc.specs.PictureNumber.{derive, number}
use Rattle.poc.specs.Distance.{Call, Step, step, is_accepted, accepted_steps, number_of, layer_of, LaterCalls, AfterKey, SubGroup}
use Rattle.poc.specs.Distance.{FirstIsKey, Between, Origin, ComesFrom, Apart, DistanceFrom, DistanceRule, DistanceFirst}
use Rattle.poc.specs.Clip.{leaves}
use Rattle.poc.proofs.Differences.{pos_inj}
use Rattle.poc.proofs.Offset.{Layer, one-layer}
use Rattle.poc.proofs.Gap.{layer-of, origin-between, origin-unique, find-origin, not-between, Found}
use Rattle.poc.proofs.Answers.{step_of, derived, accepted-is, accepted-yes, accepted-no, refused-keeps}
use Rattle.poc.proofs.Climb.{doc_after, Walk, Place, Rest, later-rest, walk, walk-fits, walk-climbs}

-- ---- on a record

module _ (L p : ℕ) (r : EvcPoc) (calls : List Call) (key : AfterKey p r) (h : LaterCalls L (accepted_steps r calls)) where
  start : Place p 0 0 0 r
  start = record { previous = key.previous; offset = key.offset; low = omega arith; top = refl }

  to-come : Rest L 0 0 (accepted_steps r calls)
  to-come = later-rest L (accepted_steps r calls) h

  pub the-walk : Walk L p 0 (accepted_steps r calls)
  the-walk = walk calls L p 0 0 0 r start to-come

-- ---- the conclusions

module _ (L p : ℕ) (ss : List Step) (w : Walk L p 0 ss) where
  origin-of : (s : Step) → Memᴰ s ss → Origin L p (number_of s) (layer_of s) (doc_after s)
  origin-of s m = (walk-fits w s m).origin

  within : (s : Step) → Memᴰ s ss → Between L p (number_of s)
  within s m = origin-between (origin-of s m)

  offsets-differ : Distinct (map doc_after ss)
  offsets-differ = climbing-distinct 0 (map doc_after ss) (walk-climbs w)

  numbers-differ : Distinct (map number_of ss)
  numbers-differ = distinct-by doc_after number_of ss joined offsets-differ
    where
      joined : (a b : Step) → Memᴰ a ss → Memᴰ b ss → number_of a ≡ number_of b → doc_after a ≡ doc_after b
      joined a b m n e =
          (origin-unique (subst (λ z. Origin L p z (layer_of a) (doc_after a)) e (origin-of a m)) (origin-of b n)).1

  first-differs : Memᴰ (pos p) (map number_of ss) → ⊥
  first-differs m = let u = mem-unmap number_of ss m in not-between (within u.0 u.1) u.2

  -- in a full run every offset is met
  offset-met : length ss + 1 ≡ 2 ^ L → (d : ℕ) → 1 ≤ d → d < 2 ^ L → Memᴰ d (map doc_after ss)
  unfolding Distinct
  offset-met full d h k =
      ⊎_elim (λ e. absurd (omega arith)) (λ m. m)
      (Memᴰ.cases_cons
      (all-met (2 ^ L) (0 ∷ map doc_after ss)
      (λ m. let c = climbing-above 0 (map doc_after ss) (walk-climbs w) 0 m in omega arith, offsets-differ)
      (holds-cons (λ (x : ℕ). x < 2 ^ L) (pow_pos L) below)
      (let e = length-map ss doc_after in omega arith) d k))
    where
      below : (x : ℕ) → Memᴰ x (map doc_after ss) → x < 2 ^ L
      below x m =
          let u = mem-unmap doc_after ss m in
          let o = origin-of u.0 u.1 in
          let a = o.offset_high in
          let b = pow_mono o.layer_high in
          let q = u.2 in
          omega arith

  full_run : length ss + 1 ≡ 2 ^ L → (n : ℤ) → Between L p n → Once n (map number_of ss)
  full_run full n b = met (find-origin L p n b)
    where
      met : Found L p n → Once n (map number_of ss)
      met f =
          let o = f.origin in
          let lo = o.offset_low in
          let hi = o.offset_high in
          let x = pow_pos (f.t - 1) in
          let y = pow_mono o.layer_high in
          let u = mem-unmap doc_after ss (offset-met full f.d (omega arith) (omega arith)) in
          let v = origin-of u.0 u.1 in
          let same =
          one-layer f.t (layer_of u.0) f.d o.layer_low v.layer_low (layer-of o)
          (subst (λ (x : ℕ). Layer (layer_of u.0) x) (sym u.2) (layer-of v)) in
          let e : n ≡ number_of u.0 = sym o.gives ∙ ap₂ (λ t d. number p L t d) same u.2 ∙ v.gives in
          once (map number_of ss) numbers-differ (Memᴰ.cast e (Memᴰ.map number_of u.1))

  comes_from : (n : ℤ) → Between L p n → ComesFrom L p n ss
  comes_from n b =
      let f = find-origin L p n b in
      record {
        layer = f.t;
        offset = f.d;
        origin = f.origin;
        only = λ t d o. origin-unique o f.origin;
        met_with = λ s m e.
            let q = origin-unique (subst (λ z. Origin L p z (layer_of s) (doc_after s)) e (origin-of s m)) f.origin in
            (q.0, (walk-fits w s m).offset ∙ ap pos q.1);
      }

  pub all_apart : Apart L p ss
  unfolding Distinct
  all_apart = record { differ = (first-differs, numbers-differ); within = within; full_run = full_run; comes_from = comes_from }

pub distance-from : DistanceFrom
distance-from L p r calls key h = all_apart L p (accepted_steps r calls) (the-walk L p r calls key h)

-- ---- a list whose first accepted call is of layer 0

module _ (L p : ℕ) (r : EvcPoc) (c : Call) (len : c.log2 ≡ L) (none : c.layer ≡ 0) (ok : is_accepted (step r c) ≡ true)
    (is : number_of (step r c) ≡ pos p) where
  -- it gives previous + 2^L and leaves the offset 0
  key_step : step r c ≡ step_of c (derived (pos (r.prev_poc_val + 2 ^ L)) (r.prev_poc_val + 2 ^ L) 0)
  key_step = rw (accepted-is c L 0 r (ap is_accepted (sym a) ∙ ok)) at a
    where
      a : step r c ≡ step_of c (derive L 0 r)
      a = ap₂ (λ k t. step_of c (derive k t r)) len none

  pub key-previous : p ≡ r.prev_poc_val + 2 ^ L
  key-previous = pos_inj p (r.prev_poc_val + 2 ^ L) (sym is ∙ ap number_of key_step)

  pub after-key : AfterKey p (step r c).after
  after-key =
      record {
        previous = ap (λ s. s.after.prev_poc_val) key_step ∙ sym key-previous;
        offset = ap (λ s. s.after.prev_doc_offset.0) key_step;
      }

-- The first accepted call of a list and the calls behind it; those in front leave the record as it was.
pub record Opens (r : EvcPoc) (calls : List Call) (key : Step) (later : List Step) : Type 0 where
  pub first : Call
  pub behind : List Call
  pub ok : is_accepted (step r first) ≡ true
  pub is_key : key ≡ step r first
  pub is_later : later ≡ accepted_steps (step r first).after behind
  pub ends : leaves r calls ≡ leaves (step r first).after behind

pub opens : (r : EvcPoc) (calls : List Call) {key : Step} {later : List Step} → accepted_steps r calls ≡ key ∷ later → Opens r calls key later
unfolding leaves accepted_steps
opens r [] e = let z : ◌≡◌ {A = ℕ} 0 1 = cc in absurd (omega arith)
opens r (c ∷ cs) {key} {later} e = pick (is_accepted (step r c)) refl (opens r cs)
  where
    pick : (b : Bool) → is_accepted (step r c) ≡ b → (accepted_steps r cs ≡ key ∷ later → Opens r cs key later) → Opens r (c ∷ cs) key later
    pick true t below =
        let q : step r c ∷ accepted_steps (step r c).after cs ≡ key ∷ later = sym (accepted-yes r c cs t) ∙ e in
        record { first = c; behind = cs; ok = t; is_key = cc; is_later = cc; ends = refl }
    pick false t below =
        let o = below (sym (accepted-no r c cs t) ∙ e) in
        record {
          first = o.first;
          behind = o.behind;
          ok = o.ok;
          is_key = o.is_key;
          is_later = o.is_later;
          ends = ap (λ q. leaves q cs) (refused-keeps c c.log2 c.layer r t) ∙ o.ends;
        }

module _ {L p : ℕ} {r : EvcPoc} {calls : List Call} (g : SubGroup L p r calls) where
  pub opening : Opens r calls g.key g.later
  opening = opens r calls g.are

  abbrev after_first : EvcPoc
  after_first = (step r opening.first).after

  pub group-previous : p ≡ r.prev_poc_val + 2 ^ L
  group-previous =
      let o = opening in
      key-previous L p r o.first (rw o.is_key at g.key_length) (rw o.is_key at g.key_layer) o.ok (rw o.is_key at g.key_number)

  pub group-after : AfterKey p after_first
  group-after =
      let o = opening in
      after-key L p r o.first (rw o.is_key at g.key_length) (rw o.is_key at g.key_layer) o.ok (rw o.is_key at g.key_number)

  pub group-walk : Walk L p 0 (accepted_steps after_first opening.behind)
  group-walk = the-walk L p after_first opening.behind group-after (subst (LaterCalls L) opening.is_later g.rest)

pub distance-rule : DistanceRule
distance-rule L p r calls g =
    let o = opening g in
    subst (Apart L p) (sym o.is_later)
    (distance-from L p (after_first g) o.behind (group-after g) (subst (LaterCalls L) o.is_later g.rest))

-- ---- a list that begins with it

module _ (L p : ℕ) (r : EvcPoc) (first : Call) (later : List Call) (g : FirstIsKey L p r first later) where
  first-accepted : is_accepted (step r first) ≡ true
  first-accepted = rw g.first_number

  pub first_group : SubGroup L p r (first ∷ later)
  first_group =
      record {
        short = g.short;
        key = step r first;
        later = accepted_steps (step r first).after later;
        are = accepted-yes r first later first-accepted;
        key_length = g.first_length;
        key_layer = g.first_layer;
        key_number = rw g.first_number;
        rest = g.rest;
      }

pub distance-first : DistanceFirst
unfolding first_group
distance-first L p r first later g = distance-rule L p r (first ∷ later) (first_group L p r first later g)
