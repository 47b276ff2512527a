-- Where the parts of the derivation are asked: after the tests for 15 and 16, at the start of the search, and at an offset that the search found.
-- Assumes nothing.
use Rattle.std.specs.Prelude.{ℕ, ◌+◌, ◌-◌, ◌*◌, ◌^◌, ◌≤◌, ◌<◌, ◌≡◌, ℤ, pos}
use Rattle.std.proofs.Math.IntN.{sub_ℕ}
use Rattle.def.specs.declared.EvcPoc.{EvcPoc}
use Rattle.poc.specs.PictureNumber.{offset_of, max_poc, max_log2, max_doc_offset}

-- A call that neither 15 nor 16 turns down.
pub record Checked (L t : ℕ) (r : EvcPoc) : Type 0 where
  pub short : L ≤ max_log2
  pub layer : t ≤ L
  pub previous : r.prev_poc_val ≤ max_poc
  pub is_offset : r.prev_doc_offset.0 ≡ pos (offset_of r.prev_doc_offset.0)
  pub offset : offset_of r.prev_doc_offset.0 ≤ max_doc_offset

-- A layer t from 1 to L, with L at most 15, and a decoding offset z below 2^L, where a search for layer t may start.
pub record Searched (L t : ℕ) (z : ℤ) : Type 0 where
  pub layer_low : 1 ≤ t
  pub layer_high : t ≤ L
  pub short : L ≤ max_log2
  pub is_offset : z ≡ pos (offset_of z)
  pub below : offset_of z < 2 ^ L

-- The same, where z belongs to layer t: from 2^(t-1) to 2^t - 1.
pub record OfLayer (L t : ℕ) (z : ℤ) : Type 0 where
  pub layer_low : 1 ≤ t
  pub layer_high : t ≤ L
  pub short : L ≤ max_log2
  pub is_offset : z ≡ pos (offset_of z)
  pub offset_low : 2 ^ (t - 1) ≤ offset_of z
  pub offset_high : offset_of z < 2 ^ t

-- What is added to the previous number: (2(d - 2^(t-1)) + 1) × 2^(L-t) - 2^L.
abbrev pub signed_offset : ℕ → ℕ → ℕ → ℤ
signed_offset L t d = sub_ℕ ((2 * (d - 2 ^ (t - 1)) + 1) * 2 ^ (L - t)) (2 ^ L)

-- What the table has an entry for: lengths up to 2^8, and decoding offsets that are not 0.
pub record InTable (L d : ℕ) : Type 0 where
  pub short : L ≤ 8
  pub above_zero : 1 ≤ d
  pub below : d < 2 ^ L
