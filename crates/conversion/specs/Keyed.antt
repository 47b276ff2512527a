-- One slot by value and the running form: the key that it becomes, and the rows with its list numbers.
-- Assumes nothing.
use Rattle.std.specs.Prelude.{ℕ, ◌*◌, ◌<◌, ◌≡◌, Bool, cond, not, ◌&&◌, ◌||◌, List, ltb, length}
use Rattle.std.proofs.Math.Seq.{paste}
use Rattle.def.specs.State.{slots}
use Rattle.def.specs.declared.{Slot.Slot}
use Rattle.keys.specs.Keys.{key_made, row_length}
use Rattle.whole.specs.Whole.{zero_if_empty, poc_fits}

-- A picture's buffer number is one of 27.
abbrev pub buffer_fits : Slot → Bool
buffer_fits s = not s.present || ltb s.buf slots

-- A slot keeps the rules that a slot can break by itself.
abbrev pub slot_fits : Slot → Bool
slot_fits s = zero_if_empty s && (poc_fits s && buffer_fits s)

-- Its key. One that breaks a rule gets a key of no whole state.
abbrev pub key_for : Slot → ℕ
key_for s =
    cond (slot_fits s)
    (cond s.present (key_made s.pic.poc s.pic.temporal_id s.buf s.pic.need_for_out s.pic.is_ref) 0)
    2

-- The rows with its list numbers.
abbrev pub rows_with : List ℕ → Slot → List ℕ
rows_with rows s = cond (slot_fits s && s.present) (paste rows (row_length * s.buf) s.pic.list_poc row_length) rows

-- What the type of a slot says of it.
pub record Shaped (s : Slot) : Type 0 where
  pub row_long : length s.pic.list_poc ≡ row_length
  pub layer_low : s.pic.temporal_id < 256

pub record TakenSlot (s : Slot) (k : ℕ) (rows after : List ℕ) : Type 0 where
  pub key_is : k ≡ key_for s
  pub rows_are : after ≡ rows_with rows s
  pub shaped : Shaped s
