-- Marking on keys, for the contracts: its picks, its sweep, and what it comes to on the slots that keys stand for, whatever the rows hold.
-- Assumes nothing.
use Rattle.std.specs.Prelude.{ℕ, ◌<◌, ◌%◌, ◌≡◌, Bool, false, not, ◌&&◌, ◌||◌, List, map, ltb, eqb, length, get_or}
use Rattle.seq.specs.Lists.{count_if}
use Rattle.def.specs.State.{slots}
use Rattle.keys.specs.Keys.{key_marked, key_layer, key_number, key_unmarked, slot_at}
use Rattle.marking.specs.Marking.{swept, unmark_first, note_first, last_walk, marked}

-- A reference of a layer above 0, or one in a slot above 0 whose number is no multiple of a gap above 0.
abbrev pub key_outdated : ℕ → ℕ → ℕ → Bool
key_outdated gap i k = key_marked k && (ltb 0 (key_layer k) || (ltb 0 i && (ltb 0 gap && not (eqb (key_number k % gap) 0))))

-- A flag for each slot: what the test says of it, in its place.
pub record Picks (test : ℕ → ℕ → Bool) (keys : List ℕ) (picks : List Bool) : Type 0 where
  pub picks_long : length picks ≡ slots
  pub picks_test : (i : ℕ) → i < slots → get_or picks i false ≡ test i (get_or keys i 0)

-- What stands at a place is picked where its flag is set.
abbrev pub flagged : {A : Type 0} → List Bool → ℕ → A → Bool
flagged picks i x = get_or picks i false

-- Those kept in order, and behind them those picked, unmarked, in order.
abbrev pub key_sweep : List Bool → List ℕ → List ℕ
key_sweep picks keys = swept key_unmarked (flagged picks) keys

-- The first n marked slots are unmarked, and noted.
pub record Unmarks (n : ℕ) (before after : List ℕ) (notes : List Bool) : Type 0 where
  pub unmarks_slots : (rows : List ℕ) → map (slot_at rows) after ≡ unmark_first n (map (slot_at rows) before)
  pub notes_slots : (rows : List ℕ) → notes ≡ note_first n (map (slot_at rows) before)
  pub unmarks_long : length after ≡ slots
  pub notes_long : length notes ≡ slots

-- At each noted place what stands there goes to the last slot.
pub record Walked (notes : List Bool) (before after : List ℕ) : Type 0 where
  pub walks_slots : (rows : List ℕ) → map (slot_at rows) after ≡ last_walk notes 0 (map (slot_at rows) before)
  pub walks_long : length after ≡ slots

-- Marking, whole, and how many are marked after it.
pub record Marks (gap : ℕ) (before after : List ℕ) (n : ℕ) : Type 0 where
  pub marks_slots : (rows : List ℕ) → map (slot_at rows) after ≡ marked gap (map (slot_at rows) before)
  pub marks_count : n ≡ count_if key_marked after
  pub marks_long : length after ≡ slots
