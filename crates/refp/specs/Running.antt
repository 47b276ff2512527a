-- The calls on the running form: what the arrays stand for afterwards, and what is left as it is, number for number.
-- Assumes nothing.
use Rattle.std.specs.Prelude.{ℕ, ◌+◌, ◌*◌, ◌/◌, ◌%◌, ◌<◌, ◌≤◌, ◌≡◌, true, eqb, length, get_or, set, Result, Err}
use mathlib.Core.List.{List, map, Memᴰ}
use Rattle.std.proofs.Math.Seq.{paste}
use Rattle.def.specs.State.{slots, list_places, highest_poc}
use Rattle.def.specs.declared.{EvcRefP.EvcRefP, RefpCall.RefpCall, Answer.Answer, Refusal.Refusal}
use Rattle.def.specs.Results.{CopyResult}
use Rattle.keys.specs.declared.{Rest.Rest}
use Rattle.keys.specs.Keys.{key_present, key_buffer, key_number, row_length, head_row, number_row, entry_row, row_at, rows_length, slot_at, stands, lists_in, Sized, ComesLists, Called}
use Rattle.ordering.specs.Order.{Key}
use Rattle.ordering.specs.InNumbers.{keys_in}
use Rattle.refp.specs.Lists.{entry_of, dropped, is_i, lists_whole}

-- The list numbers of every buffer stay.
abbrev pub PicturesStay : List ℕ → List ℕ → Type 0
PicturesStay rows after = (b : ℕ) → b < slots → row_at after b ≡ row_at rows b

-- An entry by its parts: twice its buffer number plus its flag, its number, its list numbers.
abbrev pub entry_with : ℕ → ℕ → List ℕ → EvcRefP
entry_with head poc numbers = record { present = eqb (head % 2) 1; buf = head / 2 % 256; poc = poc; list_poc = numbers }

-- The rows with these parts of an entry at place j, and every other number as it was.
abbrev pub rows_with_entry : List ℕ → ℕ → ℕ → ℕ → List ℕ → List ℕ
rows_with_entry rows j head poc numbers =
    let headed = set (set rows (row_length * head_row + j) head) (row_length * number_row + j) poc in
    paste headed (row_length * (entry_row + j)) numbers row_length

-- ---- entries stored in place

-- The key of a picture that a whole state can hold.
pub record HeldKey (key : ℕ) : Type 0 where
  pub here : key_present key ≡ true
  pub buffer : key_buffer key < slots
  pub number : key_number key ≤ highest_poc

-- The entry at place j is this one; the other entries and the rows of the buffers stand for what they did.
pub record EntryStored (rows after : List ℕ) (j : ℕ) (e : EvcRefP) : Type 0 where
  pub lists_are : lists_in after ≡ set (lists_in rows) j e
  pub pictures_stay : PicturesStay rows after
  pub rows_long : length after ≡ rows_length

-- Every entry has lost flag and buffer number.
pub record Dropped (rows after : List ℕ) : Type 0 where
  pub lists_are : lists_in after ≡ map dropped (lists_in rows)
  pub pictures_stay : PicturesStay rows after
  pub rows_long : length after ≡ rows_length

-- There is room for entries from place `from` on, and the list's keys are those of slots that hold pictures.
pub record WriteRoom (keys rows list : List ℕ) (from : ℕ) : Type 0 where
  pub sized : Sized keys rows
  pub fits : from + length list ≤ list_places + list_places
  pub slots_fit : (k : Key) → Memᴰ k (keys_in list) → (k.slot < slots) × HeldKey (get_or keys k.slot 0)

-- The entries from place `from` on are the pictures of the list's keys; the rows of the buffers may be read as they stood at any time before.
pub record Entered (keys list rows after : List ℕ) (from : ℕ) : Type 0 where
  pub lists_are : (before : List ℕ) → PicturesStay before rows
      → lists_in after ≡ paste (lists_in rows) from (map (entry_of (map (slot_at before) keys)) (keys_in list)) (length list)
  pub pictures_stay : PicturesStay rows after
  pub rows_long : length after ≡ rows_length

-- ---- the calls

-- A list call comes to its definition; a call that is turned down and slice I leave rows and rest as they are.
pub record ListsCame (r : Called) (keys rows after : List ℕ) (rest : Rest) (call : RefpCall) : Type 0 where
  pub comes : ComesLists r keys after (lists_whole (stands keys rows rest) (lists_in rows) call)
  pub pictures_stay : PicturesStay rows after
  pub refused_leaves : (why : Refusal) → r.answer ≡ Err why → (after ≡ rows) × (r.rest ≡ rest)
  pub slice_i_leaves : is_i call.slice_type ≡ true → (after ≡ rows) × (r.rest ≡ rest)

-- A copy comes to its definition; one that is turned down leaves the rows as they are, any other leaves those stored.
pub record CopyCame (answer : Result Answer Refusal) (rows after stored : List ℕ) (wanted : CopyResult) : Type 0 where
  pub answers : answer ≡ wanted.answer
  pub lists_are : lists_in after ≡ wanted.refp
  pub rows_are : ((why : Refusal) → answer ≡ Err why → ⊥) → after ≡ stored
  pub pictures_stay : PicturesStay rows after
  pub rows_long : length after ≡ rows_length
  pub refused_leaves : (why : Refusal) → answer ≡ Err why → after ≡ rows
