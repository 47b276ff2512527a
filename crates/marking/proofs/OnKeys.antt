-- Marking on keys is marking on the slots that they stand for, whatever the rows hold: the sweep, for any picks, the sliding limit, the flush.
-- Assumes nothing.
use mathlib.Core.Path.{◌≡◌, refl, sym, ap, ◌∙◌}
use mathlib.Core.Bool.{Bool, true, false, cond, not, ◌&&◌}
use mathlib.Core.List.{List, [], ◌∷◌, map}
use mathlib.Core.Logic.{◌⊎◌, inl, inr}
use Prim.Native.Nat.{ℕ, suc, ◌+◌, ◌-◌, ◌<◌, ◌≤◌}
use native.Mathlib.Omega.{arith}
use lib.Dec.{ltb}
use lib.ListN.{length, get_or, drop, set, length-map}
use lib.Seq.{get_or-set_same, get_or-set_other}
use Rattle.seq.proofs.Tests.{lt-or-ge}
use Rattle.seq.specs.Lists.{count_if, select_at, move_to}
use Rattle.seq.proofs.Members.{map_at}
use Rattle.seq.proofs.Partition.{select-same, Parted, both-lengths}
use Rattle.seq.proofs.Orders.{reordered-move, count-length-same}
use Rattle.seq.proofs.Maps.{map-append, map-set, map-map, map_same, map-count, map-select-at, map-move}
use Rattle.std.specs.List.{count_by}
use Rattle.store.proofs.Finding.{count-by}
use Rattle.def.specs.declared.Slot.{Slot}
use Rattle.def.specs.State.{slots, no_slot, is_marked, unmarked}
use Rattle.keys.specs.Keys.{key_marked, key_unmarked, slot_at}
use Rattle.keys.proofs.KeyLaws.{slot-unmarked}
use Rattle.marking.specs.Marking.{last_slot, most_marked, outdated, swept, sweep, excess, last_walk, slide, marked}
use Rattle.marking.specs.OnKeys.{key_outdated, Picks, flagged, key_sweep, Unmarks, Walked, Marks}
use Rattle.marking.proofs.Steps.{Noted, noted-yes, noted-no, walk_step}
use Rattle.marking.proofs.Limits.{slide_none, slide-count}
use Rattle.marking.proofs.Kept.{sweep-length}

pub keys-unmarked : (rows keys : List ℕ) → map (slot_at rows) (map key_unmarked keys) ≡ map unmarked (map (slot_at rows) keys)
keys-unmarked rows keys =
    map-map (slot_at rows) key_unmarked keys
    ∙ map_same (λ k. slot_at rows (key_unmarked k)) (λ k. unmarked (slot_at rows k)) (slot-unmarked rows) keys
    ∙ sym (map-map unmarked (slot_at rows) keys)

-- ---- a loop that picks, slot by slot

pub picks-turn : (test : ℕ → ℕ → Bool) (keys : List ℕ) (picks : List Bool) (i : ℕ) (v : Bool) → i < length picks → v ≡ test i (get_or keys i 0)
    → ((j : ℕ) → j < i → get_or picks j false ≡ test j (get_or keys j 0))
    → (j : ℕ) → j < i + 1 → get_or (set picks i v) j false ≡ test j (get_or keys j 0)
picks-turn test keys picks i v h e so_far j l = by (lt-or-ge j i)
  where
    by : (j < i) ⊎ (i ≤ j) → get_or (set picks i v) j false ≡ test j (get_or keys j 0)
    by (inl g) = get_or-set_other picks i j v false (λ q. omega arith) ∙ so_far j g
    by (inr g) = let q : j ≡ i = omega arith in rw q (get_or-set_same picks i v false h ∙ e)

-- ---- how many are not picked

-- the flags from place i on are those given
kept_from : {A : Type 0} (picks flags : List Bool) (i : ℕ) (xs : List A) → length flags ≡ length xs
    → ((j : ℕ) → j < length flags → get_or picks (i + j) false ≡ get_or flags j false)
    → count_if not flags ≡ length (select_at (λ j x. not (flagged picks j x)) i xs)
unfolding count_if select_at
kept_from picks [] i [] e h = refl
kept_from picks [] i (x ∷ xs) e h = absurd (omega arith)
kept_from picks (b ∷ flags) i [] e h = absurd (omega arith)
kept_from {A} picks (b ∷ flags) i (x ∷ xs) e h = rw here (pick b (kept_from picks flags (suc i) xs (omega arith) there))
  where
    here : get_or picks i false ≡ b
    here = let z : i + 0 ≡ i = omega arith in rw z at (h 0 (omega arith))

    there : (j : ℕ) → j < length flags → get_or picks (suc i + j) false ≡ get_or flags j false
    there j l = let z : i + suc j ≡ suc i + j = omega arith in rw z at (h (suc j) (omega arith))

    rest : List A
    rest = select_at (λ j x. not (flagged picks j x)) (suc i) xs

    pick : (b : Bool) → count_if not flags ≡ length rest → cond (not b) (suc (count_if not flags)) (count_if not flags) ≡ length (cond (not b) (x ∷ rest) rest)
    pick true k = k
    pick false k = ap suc k

pub kept-count : {A : Type 0} (picks : List Bool) (xs : List A) → length picks ≡ length xs
    → count_if not picks ≡ length (select_at (λ j x. not (flagged picks j x)) 0 xs)
kept-count picks xs e = kept_from picks picks 0 xs e (λ j h. let z : 0 + j ≡ j = omega arith in rw z refl)

-- ---- the sweep, for any test of slots

pub sweep-same : (test : ℕ → Slot → Bool) (rows keys : List ℕ)
    → map (slot_at rows) (swept key_unmarked (λ i k. test i (slot_at rows k)) keys) ≡ sweep test (map (slot_at rows) keys)
unfolding sweep
sweep-same test rows keys =
    let f : ℕ → Slot = slot_at rows in
    let picked : List ℕ = select_at (λ i k. test i (f k)) 0 keys in
    map-append f (select_at (λ i k. not (test i (f k))) 0 keys) (map key_unmarked picked)
    ∙ rw (map-select-at f (λ i s. not (test i s)) 0 keys, map-select-at f test 0 keys, ← keys-unmarked rows picked)

-- Keys swept by what a test of keys picked are swept by the test.
pub sweep-picks : {test : ℕ → ℕ → Bool} {keys : List ℕ} {picks : List Bool} → length keys ≡ slots → Picks test keys picks
    → key_sweep picks keys ≡ swept key_unmarked test keys
sweep-picks {test} {keys} {picks} long p =
    rw (
      select-same (λ i k. not (flagged picks i k)) (λ i k. not (test i k)) 0 0 keys (λ j h. ap not (tested j h)),
      select-same (flagged picks) test 0 0 keys tested,
    )
  where
    tested : (j : ℕ) → j < length keys → flagged picks (0 + j) (get_or keys j 0) ≡ test (0 + j) (get_or keys j 0)
    tested j h = let z : 0 + j ≡ j = omega arith in rw z (p.picks_test j (omega arith))

-- ---- the sliding limit

module _ (rows : List ℕ) (n : ℕ) (start keys : List ℕ) (notes : List Bool) (left i : ℕ) (h : i < slots)
    (long₀ : length start ≡ slots) (long : length keys ≡ slots)
    (w : Noted n (map (slot_at rows) start) (map (slot_at rows) keys) notes left i) where
  at : get_or (map (slot_at rows) keys) i no_slot ≡ slot_at rows (get_or keys i 0)
  at = map_at (slot_at rows) keys i 0 no_slot (omega arith)

  inside : i < length (map (slot_at rows) start)
  inside = omega (arith, length-map start (slot_at rows))

  pub key-yes : key_marked (get_or keys i 0) ≡ true → 0 < left
      → Noted n (map (slot_at rows) start) (map (slot_at rows) (set keys i (key_unmarked (get_or keys i 0)))) (set notes i true) (left - 1) (i + 1)
  key-yes e l =
      let same : map (slot_at rows) (set keys i (key_unmarked (get_or keys i 0)))
      ≡ set (map (slot_at rows) keys) i (unmarked (get_or (map (slot_at rows) keys) i no_slot)) =
      map-set (slot_at rows) keys i (key_unmarked (get_or keys i 0))
      ∙ ap (set (map (slot_at rows) keys) i) (slot-unmarked rows (get_or keys i 0) ∙ ap unmarked (sym at)) in
      rw same (noted-yes n (map (slot_at rows) start) (map (slot_at rows) keys) notes left i inside w (ap is_marked at ∙ e) l)

  pub key-no : (ltb 0 left && key_marked (get_or keys i 0)) ≡ false → Noted n (map (slot_at rows) start) (map (slot_at rows) keys) (set notes i false) left (i + 1)
  key-no e = noted-no n (map (slot_at rows) start) (map (slot_at rows) keys) notes left i inside w (rw (at) e)

pub moved-long : (i : ℕ) (keys : List ℕ) → i < slots → length keys ≡ slots → length (move_to 0 i last_slot keys) ≡ slots
moved-long i keys h long =
    count-length-same keys (move_to 0 i last_slot keys) (reordered-move 0 i last_slot keys (omega arith) (omega arith) (λ k. true)) ∙ long

module _ (rows : List ℕ) (notes : List Bool) (keys : List ℕ) (i : ℕ) (h : i < slots) (long : length keys ≡ slots) (notes_long : length notes ≡ slots) where
  pub walk-yes : get_or notes i false ≡ true
      → last_walk (drop (i + 1) notes) (i + 1) (map (slot_at rows) (move_to 0 i last_slot keys)) ≡ last_walk (drop i notes) i (map (slot_at rows) keys)
  walk-yes e =
      ap (last_walk (drop (i + 1) notes) (i + 1)) (map-move (slot_at rows) 0 no_slot i last_slot keys (omega arith))
      ∙ sym (rw e at (walk_step notes i (map (slot_at rows) keys) (omega arith)))

  pub walk_no : get_or notes i false ≡ false
      → last_walk (drop (i + 1) notes) (i + 1) (map (slot_at rows) keys) ≡ last_walk (drop i notes) i (map (slot_at rows) keys)
  walk_no e = sym (rw e at (walk_step notes i (map (slot_at rows) keys) (omega arith)))

-- ---- marking whole: the outdated were picked, and the keys are swept

module _ (gap : ℕ) (keys : List ℕ) (picks : List Bool) (long : length keys ≡ slots) (p : Picks (key_outdated gap) keys picks) where
  abbrev after-sweep : List ℕ
  after-sweep = key_sweep picks keys

  same : (rows : List ℕ) → map (slot_at rows) after-sweep ≡ sweep (outdated gap) (map (slot_at rows) keys)
  same rows = ap (map (slot_at rows)) (sweep-picks long p) ∙ sweep-same (outdated gap) rows keys

  same_count : (rows ks : List ℕ) → count_if is_marked (map (slot_at rows) ks) ≡ count_if key_marked ks
  same_count rows ks = map-count (slot_at rows) is_marked ks

  pub sweep-long : length after-sweep ≡ slots
  sweep-long =
      sym (length-map after-sweep (slot_at keys))
      ∙ ap length (same keys)
      ∙ sweep-length (outdated gap) (map (slot_at keys) keys)
      ∙ length-map keys (slot_at keys)
      ∙ long

  pub few_marked : count_if key_marked after-sweep ≤ most_marked → Marks gap keys after-sweep (count_if key_marked after-sweep)
  unfolding marked
  few_marked h =
      record {
        marks_slots =
            λ rows. sym (ap slide (sym (same rows)) ∙ slide_none (map (slot_at rows) after-sweep) (omega (arith, same_count rows after-sweep)));
        marks_count = refl;
        marks_long = sweep-long;
      }

  pub many-marked : (fewer after : List ℕ) (notes : List Bool) → most_marked < count_if key_marked after-sweep
      → Unmarks (count_if key_marked after-sweep - most_marked) after-sweep fewer notes → Walked notes fewer after → Marks gap keys after most_marked
  unfolding marked slide excess
  many-marked fewer after notes h u k =
      record {
        marks_slots = λ rows. slid rows ∙ ap slide (same rows);
        marks_count =
            let left = slide-count (map (slot_at keys) after-sweep) (length-map after-sweep (slot_at keys) ∙ sweep-long) in
            let c = same_count keys after-sweep in
            let d = ap (count_if is_marked) (slid keys) in
            let e = same_count keys after in
            omega arith;
        marks_long = k.walks_long;
      }
    where
      slid : (rows : List ℕ) → map (slot_at rows) after ≡ slide (map (slot_at rows) after-sweep)
      slid rows =
          let n : ℕ = count_if key_marked after-sweep - most_marked in
          let before : List Slot = map (slot_at rows) after-sweep in
          let e : n ≡ excess before = rw (same_count rows after-sweep) in
          rw (k.walks_slots rows, u.unmarks_slots rows, u.notes_slots rows, e)

-- the sweep begins: the first place of those picked is how many are not
pub starts : (picks : List Bool) (keys next : List ℕ) (first : ℕ) → first ≡ count_by not picks → length picks ≡ length keys → length next ≡ length keys
    → Parted (flagged picks) key_unmarked keys next first 0 0 0
starts picks keys next first e long size =
    record {
      size = size;
      front = refl;
      back = refl;
      front-left = omega (arith, e ∙ count-by not picks, kept-count picks keys long);
      back-left = omega (arith, e ∙ count-by not picks, kept-count picks keys long, both-lengths (flagged {A = ℕ} picks) 0 keys);
    }
