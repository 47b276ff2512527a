-- The calls on keys, for the contracts: what they come to through the state that keys, rows and rest stand for, and the steps inside them.
-- Assumes nothing.
use Rattle.std.specs.Prelude.{ℕ, ◌+◌, ◌≤◌, ◌<◌, ◌≡◌, Bool, true, cond, ◌&&◌, ◌||◌, eqb, leb, length, get_or, position, Option, Some, None, Result, Ok, Err}
use mathlib.Core.List.{List, Memᴰ}
use Rattle.seq.specs.Lists.{any_of}
use Rattle.def.specs.declared.{EvcPm.EvcPm, PutCall.PutCall, Answer.Answer, Refusal.Refusal}
use Rattle.def.specs.Results.{PmResult}
use Rattle.keys.specs.declared.{Rest.Rest}
use Rattle.picman.specs.declared.{Shown.Shown, NoMoreOutput.NoMoreOutput}
use Rattle.store.specs.Highest.{highest_place}
use Rattle.std.specs.Option.{ok_or}
use Rattle.def.specs.State.{slots, list_places, highest_poc}
use Rattle.keys.specs.Keys.{key_present, key_wanted, key_empty, key_buffer, key_buffers, key_number, row_at, lists_in, stands, Sized, Comes}
use Rattle.picman.specs.Put.{remarked, list_numbers, placed_at}

-- Keys, rows and rest are as they were.
pub record Untouched (keys rows : List ℕ) (rest : Rest) (keys' rows' : List ℕ) (rest' : Rest) : Type 0 where
  pub same_keys : keys' ≡ keys
  pub same_rows : rows' ≡ rows
  pub same_rest : rest' ≡ rest

-- Every row but that of the buffer that the answer shows is as it was, also where no picture holds the buffer.
abbrev pub RowsButShown : Result Answer Refusal → List ℕ → List ℕ → Type 0
RowsButShown answer rows rows' = (b : ℕ) → ((n : ℕ) → answer ≡ Ok (Answer.Picture b n) → ⊥) → row_at rows' b ≡ row_at rows b

-- A call comes to what its definition says of the state that keys, rows and rest stood for, the lists stay, and a call turned down touches nothing.
pub record Calls (answer : Result Answer Refusal) (keys rows : List ℕ) (rest : Rest) (keys' rows' : List ℕ) (rest' : Rest) (wanted : PmResult) : Type 0 where
  pub comes : Comes answer keys' rows' rest' (lists_in rows) wanted
  pub other_rows : RowsButShown answer rows rows'
  pub untouched : (why : Refusal) → answer ≡ Err why → Untouched keys rows rest keys' rows' rest'

-- A picture as it is shown.
abbrev pub shown_as : ℕ → ℕ → Shown
shown_as buffer poc = record { buffer = buffer; poc = poc }

abbrev pub key_shown : ℕ → Shown
key_shown k = shown_as (key_buffer k) (key_number k)

-- ---- out

abbrev pub key_due : ℕ → ℕ → Bool
key_due next k = key_wanted k && leb (key_number k) next

-- Where out looks: the lowest slot that is due. Where none is: none yet, or no more where no picture is wanted.
abbrev pub due_or_none : Option ℕ → Bool → Result (Option ℕ) NoMoreOutput
due_or_none (Some i) wanted = Ok (Some i)
due_or_none None wanted = cond wanted (Ok None) (Err (record {}))

abbrev pub due_place : ℕ → List ℕ → Result (Option ℕ) NoMoreOutput
due_place next keys = due_or_none (position (key_due next) keys) (any_of key_wanted keys)

-- As in a whole state.
abbrev pub NumbersFit : List ℕ → Type 0
NumbersFit keys = (i : ℕ) → i < slots → key_present (get_or keys i 0) ≡ true → key_number (get_or keys i 0) ≤ highest_poc

-- The rest after the picture of key k is handed over.
abbrev pub with_output_of : ℕ → Rest → Rest
with_output_of k r = record r { poc_next_output = key_number k + r.poc_increase }

-- ---- put

abbrev pub marks_anew : PutCall → Bool
marks_anew c = c.is_idr || eqb c.temporal_id 0

abbrev pub with_refs : Rest → ℕ → Rest
with_refs r n = record r { cur_num_ref_pics = n }

-- The keys are marked anew, n of them marked then: on every state they stand for, that is `remarked`.
pub record Remarked (c : PutCall) (keys next : List ℕ) (n : ℕ) : Type 0 where
  pub remarks : (rows : List ℕ) (rest : Rest) → stands next rows (with_refs rest n) ≡ remarked c (stands keys rows rest)
  pub remarks_long : length next ≡ slots

abbrev pub only_marked : PutCall → EvcPm → PmResult
only_marked c pm = record { answer = Ok Answer.Done; pm = remarked c pm }

-- A reference goes to the slot of the reference count n, if it is empty; any other goes to the highest empty slot.
abbrev pub key_place : Bool → ℕ → List ℕ → Result ℕ Refusal
key_place ref n keys =
    ok_or (cond ref (cond (key_present (get_or keys n 0)) None (Some n)) (highest_place key_empty keys)) Refusal.SlotTaken

-- There is room for one more picture, and no slot holds the leased one's buffer number.
pub record PlaceRoom (keys : List ℕ) (r : Rest) (pos : ℕ) : Type 0 where
  pub place_in : pos < slots
  pub size_room : r.cur_pb_size < slots
  pub refs_room : r.cur_num_ref_pics < slots
  pub forward_few : r.num_refp_0 ≤ list_places
  pub is_leased : key_present r.lease ≡ true
  pub buffer_below : key_buffer r.lease < slots
  pub buffer_free : Memᴰ (key_buffer r.lease) (key_buffers keys) → ⊥

-- The leased picture stands at place pos.
pub record Placed (shown : Shown) (keys rows : List ℕ) (rest : Rest) (c : PutCall) (pos : ℕ) (keys' rows' : List ℕ) (rest' : Rest) : Type 0 where
  pub shows : shown ≡ shown_as (key_buffer rest.lease) c.poc
  pub stands_placed :
      let q = stands keys rows rest in
      stands keys' rows' rest' ≡ placed_at pos c (list_numbers q.num_refp_0 (lists_in rows) q.pic_lease.pic) q
  pub lists_placed : lists_in rows' ≡ lists_in rows
  pub rows_placed : (b : ℕ) → (b ≡ key_buffer rest.lease → ⊥) → row_at rows' b ≡ row_at rows b
  pub sized_placed : Sized keys' rows'
