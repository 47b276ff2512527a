-- The running form. A slot is one number, number * 2^16 + layer * 2^8 + buffer * 2^3 + wanted * 4 + marked * 2 + 1, and 0 where it is empty.
-- The list numbers of a picture stand in the row of its buffer number and never move. Here: which slot, which list entry and which state
-- the arrays stand for. Any number is read as a key, so a state that is not whole can be said too.
-- Assumes nothing.
use Rattle.std.specs.Prelude.{ℕ, ◌+◌, ◌-◌, ◌*◌, ◌/◌, ◌%◌, ◌≡◌, Bool, cond, not, ◌&&◌, List, map, eqb, length, get_or, take, drop, replicate, Result}
use mir.Val.{bool_byte}
use Rattle.seq.specs.Lists.{select, entries}
use Rattle.def.specs.State.{slots, list_places}
use Rattle.def.specs.declared.{Answer.Answer, Refusal.Refusal, Slot.Slot, EvcPm.EvcPm, EvcRefP.EvcRefP}
use Rattle.def.specs.Results.{RefpResult, PmResult}
use Rattle.keys.specs.declared.{Rest.Rest}

-- ---- a key

abbrev pub key_present : ℕ → Bool
key_present k = eqb (k % 2) 1

abbrev pub key_ref : ℕ → Bool
key_ref k = eqb (k / 2 % 2) 1

abbrev pub key_out : ℕ → Bool
key_out k = eqb (k / 4 % 2) 1

abbrev pub key_buffer : ℕ → ℕ
key_buffer k = k / 8 % 32

abbrev pub key_layer : ℕ → ℕ
key_layer k = k / 256 % 256

abbrev pub key_number : ℕ → ℕ
key_number k = k / 65536

abbrev pub key_marked : ℕ → Bool
key_marked k = key_present k && key_ref k

abbrev pub key_wanted : ℕ → Bool
key_wanted k = key_present k && key_out k

abbrev pub key_idle : ℕ → Bool
key_idle k = key_present k && (not (key_ref k) && not (key_out k))

abbrev pub key_empty : ℕ → Bool
key_empty k = not (key_present k)

abbrev pub key_unmarked : ℕ → ℕ
key_unmarked k = k - k / 2 % 2 * 2

-- The key of a picture that is handed over loses the flag of one that is wanted.
abbrev pub key_handed_over : ℕ → ℕ
key_handed_over k = k - k / 4 % 2 * 4

abbrev pub key_made : ℕ → ℕ → ℕ → Bool → Bool → ℕ
key_made poc layer b wanted ref = poc * 65536 + layer * 256 + b * 8 + bool_byte wanted * 4 + bool_byte ref * 2 + 1

-- ---- the rows: of each buffer, of the entries' flags and buffer numbers, of their numbers, and of each entry's list numbers. Both lists have
-- places for two rows of numbers.

abbrev pub row_length : ℕ
row_length = list_places

abbrev pub head_row : ℕ
head_row = slots

abbrev pub number_row : ℕ
number_row = head_row + 2

abbrev pub entry_row : ℕ
entry_row = number_row + 2

abbrev pub row_count : ℕ
row_count = entry_row + 2 * list_places

abbrev pub rows_length : ℕ
rows_length = row_length * row_count

unfoldable pub row_at : List ℕ → ℕ → List ℕ
row_at rows b = take row_length (drop (row_length * b) rows)

-- ---- what they stand for

-- The slot with the fields of a key and these list numbers.
abbrev pub slot_with : ℕ → List ℕ → Slot
slot_with k numbers =
    record {
      present = key_present k;
      buf = key_buffer k;
      pic = record { poc = key_number k; is_ref = key_ref k; need_for_out = key_out k; temporal_id = key_layer k; list_poc = numbers };
    }

-- A picture's list numbers are the row of its buffer; an empty slot has none.
abbrev pub slot_at : List ℕ → ℕ → Slot
slot_at rows k = slot_with k (cond (key_present k) (row_at rows (key_buffer k)) (replicate row_length 0))

-- The entry of the lists at place j: twice its buffer number plus its flag, its number, its row.
abbrev pub head_of : EvcRefP → ℕ
head_of e = 2 * e.buf + bool_byte e.present

abbrev pub head_at : List ℕ → ℕ → ℕ
head_at rows j = get_or rows (row_length * head_row + j) 0

abbrev pub number_at : List ℕ → ℕ → ℕ
number_at rows j = get_or rows (row_length * number_row + j) 0

abbrev pub entry_at : List ℕ → ℕ → EvcRefP
entry_at rows j =
    record {
      present = eqb (head_at rows j % 2) 1;
      buf = head_at rows j / 2 % 256;
      poc = number_at rows j;
      list_poc = row_at rows (entry_row + j);
    }

-- Both lists, flat, forward first.
abbrev pub lists_in : List ℕ → List EvcRefP
lists_in rows = entries (entry_at rows) (2 * list_places)

-- The state.
abbrev pub stands : List ℕ → List ℕ → Rest → EvcPm
stands keys rows r = record {
  pic = map (slot_at rows) keys;
  pic_lease = slot_at rows r.lease;
  max_pb_size = r.max_pb_size;
  max_num_ref_pics = r.max_num_ref_pics;
  cur_pb_size = r.cur_pb_size;
  cur_num_ref_pics = r.cur_num_ref_pics;
  num_refp_0 = r.num_refp_0;
  num_refp_1 = r.num_refp_1;
  poc_next_output = r.poc_next_output;
  poc_increase = r.poc_increase;
}

pub record Sized (keys rows : List ℕ) : Type 0 where
  pub slots_long : length keys ≡ slots
  pub rows_long : length rows ≡ rows_length

-- A call on the state comes to what its definition says of the state that the arrays stood for; the lists are as they were.
pub record Comes (answer : Result Answer Refusal) (keys rows : List ℕ) (rest : Rest) (lists : List EvcRefP) (wanted : PmResult) : Type 0 where
  pub answers : answer ≡ wanted.answer
  pub stands_for : stands keys rows rest ≡ wanted.pm
  pub lists_stay : lists_in rows ≡ lists
  pub still_sized : Sized keys rows

-- A call's answer, or why it is turned down, with the rest after it.
pub record Called : Type 0 where
  pub answer : Result Answer Refusal
  pub rest : Rest

-- A call on state and lists, likewise.
pub record ComesLists (r : Called) (keys rows : List ℕ) (wanted : RefpResult) : Type 0 where
  pub lists_answers : r.answer ≡ wanted.answer
  pub lists_stand_for : stands keys rows r.rest ≡ wanted.pm
  pub lists_are : lists_in rows ≡ wanted.refp
  pub lists_sized : Sized keys rows

-- The rest with some parts replaced.
abbrev pub with_lease : Rest → ℕ → ℕ → Rest
with_lease r lease size = record r { lease = lease; cur_pb_size = size }

-- The buffer numbers that keys hold, as `buffers_of` says them of slots.
abbrev pub key_buffers : List ℕ → List ℕ
key_buffers keys = map key_buffer (select key_present keys)
