-- Why a derivation is turned down: each number under its condition and under no other, in the order 15, 16, 6.
-- Assumes nothing.
use Rattle.std.specs.Prelude.{ℕ, ◌+◌, ◌^◌, ◌≤◌, ◌<◌, ◌≡◌, ◌↔◌, ◌⊎◌, ℤ, pos, negsuc, Err}
use Rattle.def.specs.declared.{EvcPoc.EvcPoc, Refusal.Refusal}
use Rattle.def.specs.declared.Refusal.TheVariants.{BadLayer, BadRecord, NumberTooHigh}
use Rattle.poc.specs.PictureNumber.{derive, next_offset, max_poc, max_log2, max_doc_offset}
use Rattle.poc.specs.Domain.{Checked}

-- L over 15, or the layer over L.
abbrev pub LayerIsBad : ℕ → ℕ → Type 0
LayerIsBad L t = (max_log2 < L) ⊎ (L < t)

-- An offset outside 0 to 32,767.
pub data OffsetIsBad : ℤ → Type 0 where
  negative : (n : ℕ) → OffsetIsBad (negsuc n)
  too_large : (d : ℕ) → max_doc_offset < d → OffsetIsBad (pos d)

-- The previous number over 2,147,483,647, or the offset outside its range.
abbrev pub RecordIsBad : EvcPoc → Type 0
RecordIsBad r = (max_poc < r.prev_poc_val) ⊎ OffsetIsBad r.prev_doc_offset.0

-- A number over 2,147,483,647. Layer 0: the derived one, previous + 2^L. Another layer: previous itself, where the offset's step
-- by one gives 0 and it grows by 2^L; the derived number is below it.
pub data NumberIsTooHigh (L t : ℕ) (r : EvcPoc) : Type 0 where
  derived_number : t ≡ 0 → max_poc < r.prev_poc_val + 2 ^ L → NumberIsTooHigh L t r
  grown_previous : 1 ≤ t → next_offset L r ≡ 0 → max_poc < r.prev_poc_val + 2 ^ L → NumberIsTooHigh L t r

-- The refusals of a derivation and their conditions, each where none before it holds.
pub data Refusing (L t : ℕ) (r : EvcPoc) : Refusal → Type 0 where
  is_bad_layer : LayerIsBad L t → Refusing L t r BadLayer
  is_bad_record : L ≤ max_log2 → t ≤ L → RecordIsBad r → Refusing L t r BadRecord
  is_too_high : Checked L t r → NumberIsTooHigh L t r → Refusing L t r NumberTooHigh

-- A derivation answers a refusal exactly under that refusal's condition.
abbrev pub DeriveWhy : Type 0
DeriveWhy = (L t : ℕ) (r : EvcPoc) (why : Refusal) → ((derive L t r).answer ≡ Err why) ↔ Refusing L t r why

-- A derivation that is turned down leaves the record as it was.
abbrev pub DeriveRefused : Type 0
DeriveRefused = (L t : ℕ) (r : EvcPoc) (why : Refusal) → (derive L t r).answer ≡ Err why → (derive L t r).poc ≡ r
