-- The rules of whole states, told from keys: what one pass gathers from any keys and any lease says whether the state that they stand for is whole.
-- Assumes nothing.
use mathlib.Core.Path.{◌≡◌, refl, sym, ap, ap₂, ◌∙◌}
use mathlib.Core.Bool.{Bool, true, false, not, ◌&&◌, and-true}
use mathlib.Core.List.{List, [], ◌∷◌, ◌++◌, map}
use mathlib.Core.Logic.{◌⊎◌, inl, inr}
use Prim.Native.Nat.{ℕ, ◌+◌, ◌*◌, ◌/◌, ◌%◌, ◌^◌, ◌≤◌, ◌<◌}
use native.Mathlib.Nat.{div-div-eq-div-mul, div-add-mod', zero-mul, zero-div}
use native.Mathlib.Omega.{arith}
use lib.Dec.{leb, ltb, eqb}
use lib.ListN.{replicate}
use borrow.Author.Tests.{lt-ltb, le-ltb, le-leb, lt-leb, eqb-true, eqb-false, not-true}
use Rattle.seq.proofs.Tests.{lt-or-ge, all-holds}
use Rattle.seq.specs.Lists.{all_of, count_if, all_differ}
use Rattle.seq.proofs.Maps.{map-append, map-count}
use Rattle.def.specs.State.{slots, list_places, highest_poc, is_present, is_marked}
use Rattle.keys.specs.declared.Rest.{Rest}
use Rattle.keys.specs.Keys.{key_present, key_marked, key_ref, key_out, key_buffer, key_layer, key_number, slot_at, stands}
use Rattle.keys.proofs.KeyLaws.{buffers-same}
use Rattle.whole.proofs.Laws.{six}
use Rattle.wholeness.specs.declared.tally.Tally.{Tally}
use Rattle.whole.specs.Whole.{whole, places, held_buffers, zero_if_empty, poc_fits}
use Rattle.wholeness.specs.Tallies.{no_tally, tallied, tally_all}
use Rattle.wholeness.proofs.TallyLaws.{Gathered, gathered-all, held_by, zero_if_none, low_if_picture, below27, unseen}

-- ---- one key

-- An even number whose fields are all zero is zero.
no_bits : (k : ℕ) → (k % 2 ≡ 1 → ⊥) → k / 8 % 32 ≡ 0 → k / 65536 ≡ 0 → (k / 2 % 2 ≡ 1 → ⊥) → (k / 4 % 2 ≡ 1 → ⊥) → k / 256 % 256 ≡ 0 → k ≡ 0
no_bits k even buf num ref out layer =
    let a : k / 256 / 256 ≡ 0 = div-div-eq-div-mul k 256 256 ∙ num in
    let b : k / 256 ≡ 0 = small (k / 256) 256 a layer in
    let d : k / 8 / 32 ≡ 0 = div-div-eq-div-mul k 8 32 ∙ b in
    let e : k / 8 ≡ 0 = small (k / 8) 32 d buf in
    let f : k / 4 ≡ 0 = small (k / 4) 2 (div-div-eq-div-mul k 4 2 ∙ e) (omega arith) in
    let g : k / 2 ≡ 0 = small (k / 2) 2 (div-div-eq-div-mul k 2 2 ∙ f) (omega arith) in
    omega arith
  where
    small : (n d : ℕ) → n / d ≡ 0 → n % d ≡ 0 → n ≡ 0
    small n d q r = sym (div-add-mod' n d) ∙ ap₂ (λ (x y : ℕ). x * d + y) q r ∙ let e : 0 * d + 0 ≡ 0 = (rw (zero-mul d) refl) in e

module _ (rows : List ℕ) (k : ℕ) where
  -- the test of an empty slot, at the numbers that a key without a picture stands for
  abbrev fields : Bool
  fields =
      eqb (key_buffer k) 0 && eqb (key_number k) 0 && not (key_ref k) && not (key_out k) && eqb (key_layer k) 0 && all_of (λ n. eqb n 0) (replicate list_places 0)

  zeros : (t : Bool) → eqb k 0 ≡ t → key_present k ≡ false → fields ≡ t
  unfolding all_of
  zeros true e absent = let z = eqb-true k 0 e in rw z refl
  zeros false e absent = by fields refl
    where
      by : (t : Bool) → fields ≡ t → t ≡ false
      by false f = refl
      by true f =
          let h =
          six (eqb (key_buffer k) 0) (eqb (key_number k) 0) (not (key_ref k)) (not (key_out k)) (eqb (key_layer k) 0)
          (all_of (λ n. eqb n 0) (replicate list_places 0)) f in
          absurd (eqb-false k 0 e (no_bits k (eqb-false (k % 2) 1 absent)
          (eqb-true (key_buffer k) 0 h.0)
          (eqb-true (key_number k) 0 h.1)
          (eqb-false (k / 2 % 2) 1 (not-true (key_ref k) h.2))
          (eqb-false (k / 4 % 2) 1 (not-true (key_out k) h.3))
          (eqb-true (key_layer k) 0 h.4)))

  zero-key : zero_if_empty (slot_at rows k) ≡ zero_if_none k
  zero-key = pick (key_present k) refl
    where
      pick : (p : Bool) → key_present k ≡ p → zero_if_empty (slot_at rows k) ≡ zero_if_none k
      pick true e = rw e refl
      pick false e = rw e (zeros (eqb k 0) refl e)

  number-key : poc_fits (slot_at rows k) ≡ low_if_picture k
  number-key = rw (pick (lt-or-ge k (2 ^ 47)))
    where
      pick : (k < 2 ^ 47) ⊎ (2 ^ 47 ≤ k) → leb (key_number k) highest_poc ≡ ltb k (2 ^ 47)
      pick (inl l) = le-leb (key_number k) highest_poc (omega arith) ∙ sym (lt-ltb k (2 ^ 47) l)
      pick (inr g) = lt-leb (key_number k) highest_poc (omega arith) ∙ sym (le-ltb k (2 ^ 47) g)

-- ---- all keys

all-mapped : {A B : Type 0} (f : A → B) (p : B → Bool) (q : A → Bool) → ((x : A) → p (f x) ≡ q x) → (xs : List A) → all_of p (map f xs) ≡ all_of q xs
unfolding all_of
all-mapped f p q h [] = refl
all-mapped f p q h (x ∷ xs) = ap₂ (λ (a b : Bool). a && b) (h x) (all-mapped f p q h xs)

tally-last : (t : Tally) (ks : List ℕ) (k : ℕ) → tallied (tally_all t ks) k ≡ tally_all t (ks ++ (k ∷ []))
unfolding tally_all
tally-last t [] k = refl
tally-last t (x ∷ ks) k = tally-last (tallied t x) ks k

none_seen : (ns : List ℕ) → all_of (unseen 0) ns ≡ true
none_seen ns = all-holds (unseen 0) ns (λ n m. rw (zero-div (2 ^ n)))

in_order : (a b c d e f z p r u : Bool)
    → (a && b && c && d && e && f && z && p && r && u) ≡ (a && (b && (c && d && (e && (f && (z && (r && (u && (p && true)))))))))
in_order false b c d e f z p r u = refl
in_order true false c d e f z p r u = refl
in_order true true false d e f z p r u = refl
in_order true true true false e f z p r u = refl
in_order true true true true false f z p r u = refl
in_order true true true true true false z p r u = refl
in_order true true true true true true false p r u = refl
in_order true true true true true true true true r u = ap (λ (b : Bool). r && b) (sym (and-true u))
in_order true true true true true true true false true true = refl
in_order true true true true true true true false true false = refl
in_order true true true true true true true false false u = refl

module _ (keys rows : List ℕ) (rest : Rest) where
  abbrev ks : List ℕ
  ks = keys ++ (rest.lease ∷ [])

  places-are : places (stands keys rows rest) ≡ map (slot_at rows) ks
  places-are = sym (map-append (slot_at rows) keys (rest.lease ∷ []))

  held-are : held_buffers (stands keys rows rest) ≡ held_by ks
  held-are = rw places-are (buffers-same rows ks)

  -- What is tested of what was gathered.
  abbrev told : Tally → Tally → Bool
  told some every =
      leb rest.max_pb_size slots
      && leb rest.max_num_ref_pics list_places
      && leb rest.num_refp_0 list_places
      && leb rest.num_refp_1 list_places
      && eqb rest.cur_pb_size some.occupied
      && eqb rest.cur_num_ref_pics some.marked
      && eqb every.stray 0
      && ltb every.high (2 ^ 47)
      && ltb every.set (2 ^ 27)
      && eqb every.set every.sum

  pub whole-told : (some every : Tally) → some ≡ tally_all no_tally keys → every ≡ tallied some rest.lease → told some every ≡ whole (stands keys rows rest)
  unfolding whole all_of
  whole-told some every es ee =
      rw (occupied, marked, stray, high, below, differ)
      (in_order (leb rest.max_pb_size slots) (leb rest.max_num_ref_pics list_places)
      (leb rest.num_refp_0 list_places) (leb rest.num_refp_1 list_places)
      (eqb rest.cur_pb_size (count_if is_present (map (slot_at rows) keys)))
      (eqb rest.cur_num_ref_pics (count_if is_marked (map (slot_at rows) keys)))
      (all_of zero_if_empty (places (stands keys rows rest)))
      (all_of poc_fits (places (stands keys rows rest)))
      (all_of below27 (held_buffers (stands keys rows rest)))
      (all_differ (held_buffers (stands keys rows rest))))
    where
      g : Gathered no_tally (tally_all no_tally keys) keys
      g = gathered-all keys no_tally (omega arith)

      last : every ≡ tally_all no_tally ks
      last = ee ∙ ap (λ (t : Tally). tallied t rest.lease) es ∙ tally-last no_tally keys rest.lease

      h : Gathered no_tally (tally_all no_tally ks) ks
      h = gathered-all ks no_tally (omega arith)

      none_before : (n : ℕ) → 0 + n ≡ n
      none_before n = omega arith

      occupied : some.occupied ≡ count_if is_present (map (slot_at rows) keys)
      occupied =
          rw es (g.occupied-is ∙ none_before (count_if key_present keys) ∙ sym (map-count (slot_at rows) is_present keys))

      marked : some.marked ≡ count_if is_marked (map (slot_at rows) keys)
      marked =
          rw es (g.marked-is ∙ none_before (count_if key_marked keys) ∙ sym (map-count (slot_at rows) is_marked keys))

      stray : eqb every.stray 0 ≡ all_of zero_if_empty (places (stands keys rows rest))
      stray =
          rw last
          (h.no_stray
          ∙ sym (ap (all_of zero_if_empty) places-are ∙ all-mapped (slot_at rows) zero_if_empty zero_if_none (zero-key rows) ks))

      high : ltb every.high (2 ^ 47) ≡ all_of poc_fits (places (stands keys rows rest))
      high =
          rw last
          (h.no-high
          ∙ sym (ap (all_of poc_fits) places-are ∙ all-mapped (slot_at rows) poc_fits low_if_picture (number-key rows) ks))

      below : ltb every.set (2 ^ 27) ≡ all_of below27 (held_buffers (stands keys rows rest))
      below = rw last (h.set_below ∙ sym (ap (all_of below27) held-are))

      differ : eqb every.set every.sum ≡ all_differ (held_buffers (stands keys rows rest))
      differ =
          ap (λ (t : Tally). eqb t.set t.sum) last ∙ h.differ
          ∙ ap (λ (b : Bool). all_differ (held_by ks) && b) (none_seen (held_by ks))
          ∙ and-true (all_differ (held_by ks))
          ∙ sym (ap all_differ held-are)
