-- Taken at a place exactly where the built list has the picture at that place. Assumes nothing.
use mathlib.Core.Path.{◌≡◌, refl, sym, ap, ◌∙◌, subst}
use mathlib.Core.Bool.{Bool, true, false, cond}
use mathlib.Core.Bool as Bool
use mathlib.Core.List.Memᴰ
use mathlib.Core.List.{List, [], ◌∷◌, ◌++◌, map, map-append, reverse, reverse-reverse, Memᴰ}
use Prim.Native.Nat.{ℕ, zero, suc, ◌+◌, ◌<◌}
use native.Mathlib.Omega.{arith}
use lib.ListN.{length, get_or, length-append}
use lib.Seq.{get_or-append_seam}
use Rattle.seq.specs.Lists.{select, Distinct}
use Rattle.seq.proofs.Distinct.{distinct-left}
use Rattle.seq.proofs.Members.{mem-at, select-mem, select-append}
use Rattle.seq.proofs.Tests.{and_left}
use Rattle.seq.proofs.Orders.{mem-reverse}
use Rattle.def.specs.State.{list_places, no_slot, no_ref_p, is_present, is_marked, buffer_of}
use Rattle.def.specs.declared.{Slot.Slot, EvcPm.EvcPm, EvcRefP.EvcRefP, RefpCall.RefpCall}
use Rattle.whole.specs.Whole.{whole, leases}
use Rattle.whole.proofs.Laws.{whole-rules}
use Rattle.ordering.specs.Order.{Key, key_of, down, MarkedKey}
use Rattle.ordering.proofs.OrderLaws.{down-members, down-distinct}
use Rattle.passes.specs.declared.Direction.{Direction}
use Rattle.passes.specs.Passes.{walked, takes_key}
use Rattle.ruling.specs.Rules.{ask_of}
use Rattle.passes.proofs.Walked.{walked-mem}
use Rattle.choosing.specs.Choice.{is_b}
use Rattle.choosing.proofs.Accepted.{forward-taken}
use Rattle.refp.specs.Lists.{entry_of, lists}
use Rattle.refp.specs.Claims.{Built}
use Rattle.refp.proofs.ListLaws.{lists-built}
use Rattle.reasons.specs.declared.{Reason.Reason}
use Rattle.reasons.specs.Reasons.{key_at}
use Rattle.reasons.specs.Claims.{AskedOf, way_of, come_to, Condition, InForward, TakenExactly, BufferTells}
use Rattle.reasons.proofs.Refusing.{is_whole}
use Rattle.reasons.proofs.Row.{each-exactly}
use Rattle.reasons.proofs.Turns.{Stands, stands-in, forward_on, forward-on, at_place, nowhere}

-- ---- places of lists in which nothing stands twice

distinct-at : {A : Type 0} (d : A) (xs : List A) (i j : ℕ) → Distinct xs → i < length xs → j < length xs → get_or xs i d ≡ get_or xs j d → i ≡ j
unfolding Distinct
distinct-at d [] i j u hi hj e = absurd (omega arith)
distinct-at d (x ∷ xs) zero zero u hi hj e = refl
distinct-at {A} d (x ∷ xs) zero (suc j) u hi hj e = absurd (u.0 (subst (λ (y : A). Memᴰ y xs) (sym e) (mem-at xs j d (omega arith))))
distinct-at {A} d (x ∷ xs) (suc i) zero u hi hj e = absurd (u.0 (subst (λ (y : A). Memᴰ y xs) e (mem-at xs i d (omega arith))))
distinct-at d (x ∷ xs) (suc i) (suc j) u hi hj e = ap suc (distinct-at d xs i j u.1 (omega arith) (omega arith) e)

module _ {A : Type 0} (p : A → Bool) (d : A) (none : p d ≡ false) where
  passing-mem : (xs : List A) (i : ℕ) → p (get_or xs i d) ≡ true → Memᴰ (get_or xs i d) xs
  passing-mem [] i t = absurd (Bool.true≢false (sym t ∙ none))
  passing-mem (x ∷ xs) zero t = Memᴰ.head refl
  passing-mem (x ∷ xs) (suc i) t = Memᴰ.tail (passing-mem xs i t)

  passing-below : (xs : List A) (i : ℕ) → p (get_or xs i d) ≡ true → i < length xs
  passing-below [] i t = absurd (Bool.true≢false (sym t ∙ none))
  passing-below (x ∷ xs) zero t = omega arith
  passing-below (x ∷ xs) (suc i) t = let h = passing-below xs i t in omega arith

module _ {A B : Type 0} (f : A → B) (p : A → Bool) (d : A) (none : p d ≡ false) where
  selected : (xs : List A) (i : ℕ) → p (get_or xs i d) ≡ true → Memᴰ (f (get_or xs i d)) (map f (select p xs))
  selected xs i t = Memᴰ.map f (select-mem p xs (passing-mem p d none xs i t) t)

  -- elements that pass the test and have the same image stand at one place, where no two such have the same
  image-place : (xs : List A) (i j : ℕ) → Distinct (map f (select p xs)) → p (get_or xs i d) ≡ true → p (get_or xs j d) ≡ true
      → f (get_or xs i d) ≡ f (get_or xs j d) → i ≡ j
  unfolding Distinct select
  image-place [] i j u t s e = absurd (Bool.true≢false (sym t ∙ none))
  image-place (x ∷ xs) zero zero u t s e = refl
  image-place (x ∷ xs) zero (suc j) u t s e =
      absurd ((rw t at u).0 (subst (λ (y : B). Memᴰ y (map f (select p xs))) (sym e) (selected xs j s)))
  image-place (x ∷ xs) (suc i) zero u t s e =
      absurd ((rw s at u).0 (subst (λ (y : B). Memᴰ y (map f (select p xs))) e (selected xs i t)))
  image-place (x ∷ xs) (suc i) (suc j) u t s e = ap suc (image-place xs i j (pick (p x) u) t s e)
    where
      pick : (b : Bool) → Distinct (map f (cond b (x ∷ select p xs) (select p xs))) → Distinct (map f (select p xs))
      pick true v = v.1
      pick false v = v

-- two slots of a whole state that hold pictures in the same buffer are one
one-buffer : (pm : EvcPm) (i j : ℕ) → whole pm ≡ true → is_present (get_or pm.pic i no_slot) ≡ true → is_present (get_or pm.pic j no_slot) ≡ true
    → (get_or pm.pic i no_slot).buf ≡ (get_or pm.pic j no_slot).buf → i ≡ j
one-buffer pm i j w t s e =
    let split : map buffer_of (select is_present (pm.pic ++ leases pm))
    ≡ map buffer_of (select is_present pm.pic) ++ map buffer_of (select is_present (leases pm)) =
    ap (map buffer_of) (select-append is_present pm.pic (leases pm)) ∙ map-append buffer_of (select is_present pm.pic) (select is_present (leases pm)) in
    image-place buffer_of is_present no_slot refl pm.pic i j
    (distinct-left (map buffer_of (select is_present pm.pic)) (map buffer_of (select is_present (leases pm)))
    (subst (Distinct {A = ℕ}) split (whole-rules pm w).buffers_differ))
    t s e

mem-walked : {k : Key} (way : Direction) (ks : List Key) → Memᴰ k ks → Memᴰ k (walked way ks)
mem-walked {k} Direction.Up ks m = mem-reverse (reverse ks) (subst (Memᴰ k) (sym (reverse-reverse ks)) m)
mem-walked Direction.Down ks m = m

-- ---- the key of a marked slot stands in the order, and no other key has its slot

module _ (xs : List Slot) (slot : ℕ) (marked : is_marked (get_or xs slot no_slot) ≡ true) where
  in_order : Memᴰ (key_at xs slot) (down xs)
  in_order = (down-members xs (key_at xs slot)).1 (record { within = passing-below is_marked no_slot refl xs slot marked; marked = marked; key = refl })

  only-key : (h : Key) → Memᴰ h (down xs) → h.slot ≡ slot → h ≡ key_at xs slot
  only-key h m e = ((down-members xs h).0 m).key ∙ (λ i. key_of (e i) (get_or xs (e i) no_slot))

  standing : (way : Direction) → Stands slot (key_at xs slot) (walked way (down xs))
  standing way = stands-in refl (walked way (down xs)) (λ h m. only-key h (walked-mem way (down xs) m)) (mem-walked way (down xs) in_order)

-- ---- the built list

module _ (pm : EvcPm) (refp : List EvcRefP) (c : RefpCall) (slot : ℕ) (long : length refp ≡ list_places + list_places) (asked : AskedOf pm refp c slot) where
  built : Built pm refp c (lists pm refp c)
  built = lists-built pm refp c asked.forward asked.backward long asked.not_i asked.accepted

  abbrev key : Key
  key = key_at pm.pic slot

  abbrev place : ℕ
  place = length (come_to c pm.pic slot).list

  abbrev takes : Bool
  takes = takes_key (ask_of c) (way_of c pm.pic slot) place (come_to c pm.pic slot).bound key

  forward_is : built.fwd ≡ forward_on (ask_of c) (is_b c.slice_type) (down pm.pic)
  forward_is = sym built.of_passes.forward_is ∙ forward-on c (down pm.pic)

  fwd-distinct : Distinct built.fwd
  fwd-distinct = (forward-taken c (down pm.pic) built.fwd built.bwd built.of_passes).once (down-distinct pm.pic)

  -- what is taken at its turn stands at that place
  stands-there : is_marked (get_or pm.pic slot no_slot) ≡ true → takes ≡ true → (place < length built.fwd) × (get_or built.fwd place key ≡ key)
  stands-there m t =
      let s = at_place (ask_of c) (down pm.pic) (standing pm.pic slot m) (is_b c.slice_type) (way_of c pm.pic slot) refl t in
      let e = forward_is ∙ s.1 in (
        (let n = ap length e ∙ length-append (come_to c pm.pic slot).list (key ∷ s.0) in omega arith),
        rw e (get_or-append_seam (come_to c pm.pic slot).list key s.0 key),
      )

  in-forward : (n : ℕ) → Condition c pm.pic slot (Reason.Taken n) → InForward (lists pm refp c) n (get_or pm.pic slot no_slot)
  in-forward n h =
      let s = stands-there h.0 h.1 in
      let below : n < length built.fwd = (let e = h.2 in let l = s.0 in omega arith) in
      record {
        below = (let e = built.forward_count in omega arith);
        entry = built.forward_entry n key below ∙ ap (λ (k : Key). entry_of pm.pic k) (ap (λ (i : ℕ). get_or built.fwd i key) h.2 ∙ s.1);
      }

  -- ---- by the buffer of an entry

  module _ (n : ℕ) (below : n < (lists pm refp c).pm.num_refp_0) (same : (get_or (lists pm refp c).refp n no_ref_p).buf ≡ (get_or pm.pic slot no_slot).buf) where
    in-fwd : n < length built.fwd
    in-fwd = let e = built.forward_count in omega arith

    at-n-mem : Memᴰ (get_or built.fwd n key) built.fwd
    at-n-mem = mem-at built.fwd n key in-fwd

    marked-there : MarkedKey pm.pic (get_or built.fwd n key)
    marked-there = built.forward_holds.marked (get_or built.fwd n key) at-n-mem

    same-slot : (get_or built.fwd n key).slot ≡ slot
    same-slot =
        one-buffer pm (get_or built.fwd n key).slot slot (is_whole pm c slot asked)
        (and_left (is_present (get_or pm.pic (get_or built.fwd n key).slot no_slot)) _ marked-there.marked) asked.occupied
        (rw (built.forward_entry n key in-fwd) at same)

    is-marked : is_marked (get_or pm.pic slot no_slot) ≡ true
    is-marked = rw (← same-slot) marked-there.marked

    is_key : get_or built.fwd n key ≡ key
    is_key = marked-there.key ∙ (λ i. key_of (same-slot i) (get_or pm.pic (same-slot i) no_slot))

    takes-there : takes ≡ true
    takes-there = pick takes refl
      where
        pick : (t : Bool) → takes ≡ t → takes ≡ true
        pick true t = t
        pick false t =
            absurd (nowhere (ask_of c) (down pm.pic) (standing pm.pic slot is-marked) (down-distinct pm.pic) (is_b c.slice_type)
            (way_of c pm.pic slot) refl t
            (subst (Memᴰ key) forward_is (subst (λ (k : Key). Memᴰ k built.fwd) is_key at-n-mem)))

    at-its-turn : Condition c pm.pic slot (Reason.Taken n)
    at-its-turn =
        let s = stands-there is-marked takes-there in
        (is-marked, takes-there, distinct-at key built.fwd n place fwd-distinct in-fwd s.0 (is_key ∙ sym s.1))

pub buffer-tells : BufferTells
buffer-tells pm refp c slot n long asked below same =
    (each-exactly pm refp c slot (Reason.Taken n) asked).1
    (record { holds = at-its-turn pm refp c slot long asked n below same; none_before = λ q l h. omega arith })

pub taken-exactly : TakenExactly
taken-exactly pm refp c slot n long asked = (
  λ e. in-forward pm refp c slot long asked n ((each-exactly pm refp c slot (Reason.Taken n) asked).0 e).holds,
  λ f. buffer-tells pm refp c slot n long asked f.below (rw f.entry),
)
