-- Section 5 of the specification: what a call of the derivation, with its L and its layer, makes of the record.
-- The number of a picture and its decoding offset are kept apart; the number that the record holds on entry is not read.
-- Assumes nothing.
use Rattle.std.specs.Prelude.{ℕ, zero, suc, ◌+◌, ◌-◌, ◌*◌, ◌%◌, ◌^◌, Bool, true, false, cond, ◌&&◌, ◌||◌, not, ltb, leb, eqb, ℤ, pos, negsuc, Result, Ok, Err}
use Rattle.std.proofs.Math.IntN.{sub_ℕ}
use Rattle.def.specs.Binary.{floor_log2}
use Rattle.def.specs.declared.EvcPoc.{EvcPoc}
use Rattle.def.specs.declared.PocVal.{PocVal}
use Rattle.def.specs.declared.Refusal.{Refusal}
use Rattle.def.specs.declared.Refusal.TheVariants.{BadLayer, BadRecord, NumberTooHigh}

-- The highest picture number, and the highest decoding offset that a record may hold.
abbrev pub max_poc : ℕ
max_poc = 2147483647

abbrev pub max_doc_offset : ℕ
max_doc_offset = 32767

-- The longest sub-group is 2^15 pictures.
abbrev pub max_log2 : ℕ
max_log2 = 15

-- A number is too high above 2,147,483,647; a negative one never is.
abbrev pub too_high : ℤ → Bool
too_high (pos n) = ltb max_poc n
too_high (negsuc n) = false

-- The offset in a record, if it is one: 0 to 32,767.
abbrev pub offset_fits : ℤ → Bool
offset_fits (pos d) = leb d max_doc_offset
offset_fits (negsuc d) = false

abbrev pub offset_of : ℤ → ℕ
offset_of (pos d) = d
offset_of (negsuc d) = 0

-- Whether d is a decoding offset of layer t: it has t binary digits. 0 is of no layer.
unfoldable pub in_layer : ℕ → ℕ → Bool
unfolding floor_log2
in_layer t d = ltb 0 d && eqb (1 + floor_log2 d) t

-- From d, the offset steps on, mod 2^L, until it belongs to layer t; n bounds the steps.
unfoldable pub seek : ℕ → ℕ → ℕ → ℕ → ℕ
unfolding in_layer
seek zero L t d = d
seek (suc n) L t d = elim (in_layer t d) [ true ↦ d | false ↦ seek n L t ((d + 1) % 2 ^ L) ]

-- Within 2^L steps every offset is met.
unfoldable pub offset_from : ℕ → ℕ → ℕ → ℕ
unfolding seek
offset_from L t d = seek (2 ^ L) L t d

-- previous + (2(d - 2^(t-1)) + 1) × 2^(L-t) - 2^L, for an offset d of layer t.
abbrev pub number : ℕ → ℕ → ℕ → ℕ → ℤ
number prev L t d = sub_ℕ (prev + (2 * (d - 2 ^ (t - 1)) + 1) * 2 ^ (L - t)) (2 ^ L)

abbrev pub record_of : ℤ → ℕ → ℕ → EvcPoc
record_of z prev d = record { poc_val = record { 0 = z }; prev_poc_val = prev; prev_doc_offset = record { 0 = pos d } }

-- What a derivation answers, the new number or why there is none, with the record for the next one.
pub record Derivation : Type 0 where
  pub answer : Result PocVal Refusal
  pub poc : EvcPoc

-- A call turned down leaves the record as it was.
abbrev pub derivation_refused : Refusal → EvcPoc → Derivation
derivation_refused why r = record { answer = Err why; poc = r }

-- The new number z, with the previous number and the offset that the record holds from now on; or 6.
abbrev pub settled : EvcPoc → ℤ → ℕ → ℕ → Derivation
settled r z prev d =
    cond (too_high z || ltb max_poc prev) (derivation_refused NumberTooHigh r)
    (record { answer = Ok (record { 0 = z }); poc = record_of z prev d })

-- A picture of layer 0 opens the next sub-group: it lies one length behind the previous number, takes its place, and sets the offset back to 0.
abbrev pub key_picture : ℕ → EvcPoc → Derivation
key_picture L r = settled r (pos (r.prev_poc_val + 2 ^ L)) (r.prev_poc_val + 2 ^ L) 0

-- A picture of another layer: one step of the offset, which moves previous on where it comes round to 0, and then the search, which never moves it.
abbrev pub next_offset : ℕ → EvcPoc → ℕ
next_offset L r = (offset_of r.prev_doc_offset.0 + 1) % 2 ^ L

abbrev pub next_previous : ℕ → EvcPoc → ℕ
next_previous L r = cond (eqb (next_offset L r) 0) (r.prev_poc_val + 2 ^ L) r.prev_poc_val

abbrev pub other_picture : ℕ → ℕ → EvcPoc → Derivation
other_picture L t r =
    let d = offset_from L t (next_offset L r) in
    settled r (number (next_previous L r) L t d) (next_previous L r) d

-- 15: L over 15, or the layer over L. 16: previous over 2,147,483,647, or the offset outside 0 to 32,767.
abbrev pub bad_layer : ℕ → ℕ → Bool
bad_layer L t = ltb max_log2 L || ltb L t

abbrev pub bad_record : EvcPoc → Bool
bad_record r = ltb max_poc r.prev_poc_val || not (offset_fits r.prev_doc_offset.0)

-- The derivation, refusals in the order 15, 16, 6.
unfoldable pub derive : ℕ → ℕ → EvcPoc → Derivation
unfolding offset_from
derive L t r =
    cond (bad_layer L t) (derivation_refused BadLayer r)
    (cond (bad_record r) (derivation_refused BadRecord r)
    (cond (eqb t 0) (key_picture L r) (other_picture L t r)))
