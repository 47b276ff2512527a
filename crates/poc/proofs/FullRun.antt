-- A full run of every length: its layers are as the distance rule wants them, and on a record right after a picture of layer 0
-- none of its calls is turned down. Assumes nothing.
use mathlib.Core.Path.{◌≡◌, refl, sym, ap, ◌∙◌}
use mathlib.Core.Bool.{Bool, true, false, cond}
use mathlib.Core.List.Memᴰ
use mathlib.Core.List.{List, [], ◌∷◌, ◌++◌, map, Memᴰ}
use mathlib.Core.Logic.{⊎_elim}
use Prim.Native.Nat.{ℕ, zero, suc, ◌+◌, ◌-◌, ◌^◌, ◌≤◌, ◌<◌}
use native.Mathlib.Nat.{eq-or-lt_of_le}
use native.Mathlib.Omega.{arith}
use lib.Dec.{eqb}
use lib.ListN.{length, replicate, length-append, length-replicate, length-map}
use lib.Pow.{pow_mono, pow-lt}
use borrow.Author.Tests.{eq-eqb, ne_eqb, eqb-true, le-ltb, le-leb}
use Rattle.seq.specs.Lists.{count_if, Rising}
use Rattle.seq.proofs.Members.{mem-unmap}
use Rattle.seq.proofs.Tests.{count-append, count_yes, count_none, rising_step}
use Rattle.def.specs.declared.EvcPoc.{EvcPoc}
use Rattle.poc.specs.PictureNumber.{derive, number, offset_from, bad_layer, bad_record, max_poc, max_log2, max_doc_offset}
use Rattle.poc.proofs.Settled.{settled-fits, sum_low}
use Rattle.poc.specs.Distance.{Call, Step, step, run, is_accepted, accepted_steps, layer_of, LaterCalls}
use Rattle.poc.specs.FullRun.{layers_from, full_layers, call_of, full_run, NoneTurnedDown, FullRunExists}
use Rattle.poc.proofs.Words.{power_le}
use Rattle.poc.proofs.Offset.{offset_from-lands}
use Rattle.poc.proofs.Gap.{part-below}
use Rattle.poc.proofs.Answers.{step_of, derived}
use Rattle.poc.proofs.Climb.{Place, Rest, later-rest, next-offset, next-previous, advances, rest-tail}

-- ---- no call is turned down

module _ {L p t m d : ℕ} {r : EvcPoc} (short : L ≤ max_log2) (known : p ≤ max_poc) (at : Place p t m d r) where
  -- where the offset goes up by one without a wrap
  module _ (u : ℕ) (above : 1 ≤ u) (most : u ≤ L) (room : d + 1 < 2 ^ L) where
    layer-good : bad_layer L u ≡ false
    layer-good = rw (le-ltb max_log2 L short, le-ltb L u most)

    record-good : bad_record r ≡ false
    record-good =
        let a = power_le L short in
        rw (at.previous, at.offset, le-ltb max_poc p known, le-leb d max_doc_offset (omega arith))

    abbrev found : ℕ
    found = offset_from L u (d + 1)

    derives : derive L u r ≡ derived (number p L u found) p found
    unfolding derive
    derives =
        let l = offset_from-lands L u above most (d + 1) room in
        rw (layer-good, record-good, ne_eqb u 0 (omega arith), next-previous L p t m d r at room, next-offset L p t m d r at room)
        (settled-fits r (number p L u found) p found (sum_low p _ (2 ^ L) (part-below L u found above most l) known) known)

  -- with room left in its layer, or in a higher one
  room-left : (u : ℕ) → t ≤ u → u ≤ L → (t ≡ u → 1 ≤ m) → d + 1 < 2 ^ L
  room-left u up most more = ⊎_elim same higher (eq-or-lt_of_le up)
    where
      same : t ≡ u → d + 1 < 2 ^ L
      same e =
          let a = more e in
          let b = at.top in
          let k : 2 ^ t ≤ 2 ^ L = pow_mono (omega arith) in
          omega arith

      higher : t < u → d + 1 < 2 ^ L
      higher h =
          let b = at.top in
          let k : 2 ^ t < 2 ^ L = pow-lt (omega arith) in
          omega arith

  accepts : (c : Call) (ss : List Step) → Rest L t m (step r c ∷ ss) → is_accepted (step r c) ≡ true
  accepts c ss h =
      let w = h.layers (step r c) (Memᴰ.head refl) in
      let up = (rising_step t c.layer (map layer_of ss) h.never_fall).0 in
      let room = room-left c.layer up w.1 (more up) in
      ap is_accepted (a ∙ ap (λ x. step_of c x) (derives c.layer w.0 w.1 room))
    where
      more : t ≤ c.layer → t ≡ c.layer → 1 ≤ m
      more up e = let b = count_yes (eqb t) c.layer (map layer_of ss) (eq-eqb t c.layer e) in let f = h.of-this in omega arith

      a : step r c ≡ step_of c (derive L c.layer r)
      a = rw (h.same_length (step r c) (Memᴰ.head refl))

all-accepted : (cs : List Call) (L p t m d : ℕ) (r : EvcPoc) → L ≤ max_log2 → p ≤ max_poc → Place p t m d r → Rest L t m (run r cs)
    → accepted_steps r cs ≡ run r cs
unfolding accepted_steps run
all-accepted [] L p t m d r short known at h = refl
all-accepted (c ∷ cs) L p t m d r short known at h =
    let e = accepts short known at c (run (step r c).after cs) h in
    let a = advances L p t m d r c (run (step r c).after cs) at e h in
    rw e
    (ap {B = List Step} (λ l. step r c ∷ l)
    (all-accepted cs L p c.layer a.left _ (step r c).after short known a.place (rest-tail L p t m d (step r c) (run (step r c).after cs) h a)))

pub none-turned-down : NoneTurnedDown
none-turned-down L p r calls short known key h =
    all-accepted calls L p 0 0 0 r short known
    (record { previous = key.previous; offset = key.offset; low = omega arith; top = refl })
    (later-rest L (run r calls) h)

-- ---- the layers of a full run

-- a number more of the first one
rising-more : (k n : ℕ) (ns : List ℕ) → Rising (n ∷ ns) → Rising (n ∷ (replicate k n ++ ns))
unfolding Rising
rising-more zero n ns h = h
rising-more (suc k) n ns h = (omega arith, rising-more k n ns h)

rising-lower : (m n : ℕ) (ns : List ℕ) → m ≤ n → Rising (n ∷ ns) → Rising (m ∷ ns)
unfolding Rising
rising-lower m n [] l h = tt
rising-lower m n (x ∷ ns) l h = let a = h.0 in (omega arith, h.1)

layers-rise : (k n : ℕ) → Rising (suc k ∷ layers_from k n)
unfolding Rising layers_from
layers-rise k zero = tt
layers-rise k (suc n) =
    rising-more (2 ^ k) (suc k) (layers_from (suc k) n) (rising-lower (suc k) (suc (suc k)) (layers_from (suc k) n) (omega arith) (layers-rise (suc k) n))

rising-tail : (n : ℕ) (ns : List ℕ) → Rising (n ∷ ns) → Rising ns
unfolding Rising
rising-tail n [] h = tt
rising-tail n (x ∷ ns) h = h.1

mem-replicate : {A : Type 0} {x y : A} (k : ℕ) → Memᴰ x (replicate k y) → x ≡ y
mem-replicate zero m = absurd (Memᴰ.not-nil m)
mem-replicate (suc k) m = ⊎_elim (λ e. e) (λ n. mem-replicate k n) (Memᴰ.cases_cons m)

layers-within : (k n t : ℕ) → Memᴰ t (layers_from k n) → (k < t) × (t ≤ k + n)
unfolding layers_from
layers-within k zero t m = absurd (Memᴰ.not-nil m)
layers-within k (suc n) t m =
    ⊎_elim (λ a. let e = mem-replicate (2 ^ k) a in (omega arith, omega arith))
    (λ a. let h = layers-within (suc k) n t a in let x = h.0 in let y = h.1 in (omega arith, omega arith))
    (Memᴰ.append_cases (replicate (2 ^ k) (suc k)) m)

count-replicate : (t u k : ℕ) → count_if (eqb t) (replicate k u) ≤ k
unfolding count_if
count-replicate t u zero = omega arith
count-replicate t u (suc k) = pick (eqb t u) (count-replicate t u k)
  where
    pick : (b : Bool) → count_if (eqb t) (replicate k u) ≤ k → cond b (suc (count_if (eqb t) (replicate k u))) (count_if (eqb t) (replicate k u)) ≤ suc k
    pick true h = omega arith
    pick false h = omega arith

layers-count : (k n t : ℕ) → count_if (eqb t) (layers_from k n) ≤ 2 ^ (t - 1)
unfolding layers_from count_if
layers-count k zero t = omega arith
layers-count k (suc n) t = pick (eqb t (suc k)) refl (layers-count (suc k) n t)
  where
    both : count_if (eqb t) (layers_from k (suc n)) ≡ count_if (eqb t) (replicate (2 ^ k) (suc k)) + count_if (eqb t) (layers_from (suc k) n)
    both = count-append (eqb t) (replicate (2 ^ k) (suc k)) (layers_from (suc k) n)

    pick : (b : Bool) → eqb t (suc k) ≡ b → count_if (eqb t) (layers_from (suc k) n) ≤ 2 ^ (t - 1) → count_if (eqb t) (layers_from k (suc n)) ≤ 2 ^ (t - 1)
    pick true e h =
        let q : t ≡ suc k = eqb-true t (suc k) e in
        let v : t - 1 ≡ k = omega arith in
        let a = count-replicate t (suc k) (2 ^ k) in
        let z = count_none (eqb t) (layers_from (suc k) n) (λ x m. let w = (layers-within (suc k) n x m).0 in ne_eqb t x (omega arith)) in
        let y = both in
        rw v (omega arith)
    pick false e h =
        let z = count_none (eqb t) (replicate (2 ^ k) (suc k)) (λ x m. ap (eqb t) (mem-replicate (2 ^ k) m) ∙ e) in
        let y = both in
        omega arith

layers-length : (k n : ℕ) → length (layers_from k n) + 2 ^ k ≡ 2 ^ (k + n)
unfolding layers_from
layers-length k zero = let e : k + 0 ≡ k = omega arith in rw e (omega arith)
layers-length k (suc n) =
    let e : k + suc n ≡ suc k + n = omega arith in
    let h = layers-length (suc k) n in
    rw (e, length-append (replicate (2 ^ k) (suc k)) (layers_from (suc k) n), length-replicate (2 ^ k) (suc k)) (omega arith)

-- ---- as calls

run-layers : (L : ℕ) (ts : List ℕ) (r : EvcPoc) → map layer_of (run r (map (call_of L) ts)) ≡ ts
unfolding run
run-layers L [] r = refl
run-layers L (t ∷ ts) r = ap {B = List ℕ} (λ l. t ∷ l) (run-layers L ts (step r (call_of L t)).after)

-- each step of a run is one of its calls
pub run-calls : (cs : List Call) (r : EvcPoc) → map (λ s. s.call) (run r cs) ≡ cs
unfolding run
run-calls [] r = refl
run-calls (c ∷ cs) r = ap {B = List Call} (λ l. c ∷ l) (run-calls cs (step r c).after)

module _ (L : ℕ) (r : EvcPoc) where
  full-lengths : (s : Step) → Memᴰ s (run r (full_run L)) → s.call.log2 ≡ L
  full-lengths s m =
      let u = mem-unmap (call_of L) (full_layers L) (rw (run-calls (full_run L) r) at (Memᴰ.map (λ (x : Step). x.call) m)) in
      rw u.2

  full_meets : LaterCalls L (run r (full_run L))
  full_meets =
      record {
        same_length = full-lengths;
        layers =
            λ s m. let w = layers-within 0 L (layer_of s) (rw (run-layers L (full_layers L) r) at (Memᴰ.map layer_of m)) in let x = w.1 in (w.0, omega arith);
        never_fall = rw (run-layers L (full_layers L) r) (rising-tail 1 (full_layers L) (layers-rise 0 L));
        at_most = λ t. rw (run-layers L (full_layers L) r) (layers-count 0 L t);
      }

  full-length : length (run r (full_run L)) + 1 ≡ 2 ^ L
  full-length =
      let a = layers-length 0 L in
      let b = sym (length-map (run r (full_run L)) layer_of) ∙ ap length (run-layers L (full_layers L) r) in
      let e : 0 + L ≡ L = omega arith in
      rw e at (rw (← b) at a)

pub full-run-exists : FullRunExists
full-run-exists L p r short known key =
    let e = none-turned-down L p r (full_run L) short known key (full_meets L r) in
    record { none_turned_down = e; meets = rw e (full_meets L r); full = rw e (full-length L r) }
