-- ISO/IEC 23094-1's picture order count, with its own search and its exact fraction.
-- Assumes nothing.
use Rattle.std.specs.Prelude.{ℕ, zero, suc, ◌+◌, ◌*◌, ◌/◌, ◌%◌, ◌^◌, ◌≤◌, ◌≡◌, true, false, cond, eqb, ℤ, pos, negsuc, neg_ℤ, ◌+ℤ◌, ◌-ℤ◌, ◌*ℤ◌}
use Rattle.def.specs.Binary.{floor_log2}
use Rattle.def.specs.declared.EvcPoc.{EvcPoc}
use Rattle.def.specs.declared.Refusal.TheVariants.{BadLayer, BadRecord}
use Rattle.poc.specs.PictureNumber.{Derivation, derive, offset_of, bad_layer, bad_record, derivation_refused, settled}

-- ExpectedTemporalId is 0 where DocOffset is 0, and 1 + Floor(Log2(DocOffset)) elsewhere.
unfoldable pub expected_temporal_id : ℕ → ℕ
unfolding floor_log2
expected_temporal_id doc = cond (eqb doc 0) 0 (1 + floor_log2 doc)

-- While TemporalId is not ExpectedTemporalId, DocOffset becomes (DocOffset + 1) % SubGopLength; n bounds the turns, and
-- `StandardFound` says that the bound is never what ends them.
unfoldable pub while_unexpected : ℕ → ℕ → ℕ → ℕ → ℕ
unfolding expected_temporal_id
while_unexpected zero length tid doc = doc
while_unexpected (suc n) length tid doc =
    elim (eqb tid (expected_temporal_id doc)) [ true ↦ doc | false ↦ while_unexpected n length tid ((doc + 1) % length) ]

-- A fraction: a whole number over a natural one.
pub record Fraction : Type 0 where
  pub num : ℤ
  pub den : ℕ

-- PocOffset = SubGopLength × ((2 × DocOffset + 1) / 2^TemporalId - 2), over the denominator 2^TemporalId.
abbrev pub poc_offset : ℕ → ℕ → ℕ → Fraction
poc_offset length tid doc = record { num = pos length *ℤ (pos (2 * doc + 1) -ℤ pos (2 * 2 ^ tid)); den = 2 ^ tid }

-- The whole part of a fraction, toward zero; `StandardExact` says that nothing is lost here.
abbrev pub whole_part : Fraction → ℤ
whole_part f = quotient f.num f.den
  where
    quotient : ℤ → ℕ → ℤ
    quotient (pos n) m = pos (n / m)
    quotient (negsuc n) m = neg_ℤ (pos (suc n / m))

abbrev pub temporal_zero : ℕ → EvcPoc → Derivation
temporal_zero length r = settled r (pos r.prev_poc_val +ℤ pos length) (r.prev_poc_val + length) 0

-- DocOffset as the search starts, and as it ends.
abbrev pub first_offset : ℕ → EvcPoc → ℕ
first_offset length r = (offset_of r.prev_doc_offset.0 + 1) % length

abbrev pub doc_offset : ℕ → ℕ → EvcPoc → ℕ
doc_offset length tid r = while_unexpected length length tid (first_offset length r)

abbrev pub temporal_above : ℕ → ℕ → EvcPoc → Derivation
temporal_above length tid r =
    let prev = cond (eqb (first_offset length r) 0) (r.prev_poc_val + length) r.prev_poc_val in
    let doc = doc_offset length tid r in
    settled r (pos prev +ℤ whole_part (poc_offset length tid doc)) prev doc

-- The standard's derivation, under the refusals of section 5 of the specification.
unfoldable pub standard : ℕ → ℕ → EvcPoc → Derivation
unfolding while_unexpected
standard L tid r =
    cond (bad_layer L tid) (derivation_refused BadLayer r)
    (cond (bad_record r) (derivation_refused BadRecord r)
    (cond (eqb tid 0) (temporal_zero (2 ^ L) r) (temporal_above (2 ^ L) tid r)))

-- Demand 2: picture numbers equal the exact formula of the standard, on every input.
abbrev pub StandardAgrees : Type 0
StandardAgrees = (L t : ℕ) (r : EvcPoc) → standard L t r ≡ derive L t r

-- Nothing is lost by taking the fraction's whole part: it is a whole number wherever the layer is not refused.
abbrev pub StandardExact : Type 0
StandardExact =
    (L t : ℕ) (r : EvcPoc) → bad_layer L t ≡ false → 1 ≤ t →
    let f = poc_offset (2 ^ L) t (doc_offset (2 ^ L) t r) in whole_part f *ℤ pos f.den ≡ f.num

-- The search ends by finding what it looks for: any number of turns more would change nothing.
pub record EndsFound (L t : ℕ) (r : EvcPoc) : Type 0 where
  pub expected : expected_temporal_id (doc_offset (2 ^ L) t r) ≡ t
  pub settled_there : (n : ℕ) → while_unexpected (2 ^ L + n) (2 ^ L) t (first_offset (2 ^ L) r) ≡ doc_offset (2 ^ L) t r

abbrev pub StandardFound : Type 0
StandardFound = (L t : ℕ) (r : EvcPoc) → bad_layer L t ≡ false → 1 ≤ t → EndsFound L t r
