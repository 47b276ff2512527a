-- What a line is, whatever it means: bytes in lower-case hex, the last of them a check byte that brings their sum to 0 modulo 256.
-- The bytes before the check byte are the line's body.
-- Assumes nothing.
use Rattle.std.specs.Prelude.{ℕ, ◌-◌, ◌<◌, Bool, cond, ◌&&◌, List, [], ◌∷◌, ◌++◌, ltb, eqb, length, take, Option, None}
use Rattle.hex_digits.specs.Hex.{is_hex, bytes_of, digits_of, sum8, check_byte, word}
pub use Rattle.def.specs.Word.{byte_at}

-- Numbers that a byte holds.
unfoldable pub AreBytes : List ℕ → Type 0
AreBytes [] = Unit {0}
AreBytes (b ∷ bs) = (b < 256) × AreBytes bs

abbrev pub word_at : List ℕ → ℕ → ℕ → ℕ → ℕ → ℕ
word_at bs i j k l = word (byte_at bs i) (byte_at bs j) (byte_at bs k) (byte_at bs l)

-- The bytes of the line of a body, and its characters, without the newline.
abbrev pub with_check : List ℕ → List ℕ
with_check body = body ++ (check_byte body ∷ [])

abbrev pub framed : List ℕ → List ℕ
framed body = digits_of (with_check body)

-- Bytes with a check byte last: at least that one, and a sum of zero. What stands before it is the body.
abbrev pub is_checked : List ℕ → Bool
is_checked bs = ltb 0 (length bs) && eqb (sum8 bs) 0

unfoldable pub body_of : List ℕ → List ℕ
body_of bs = take (length bs - 1) bs

-- Characters that are a framed line: pairs of digits, whose bytes end with a check byte.
abbrev pub is_framed : List ℕ → Bool
is_framed cs = is_hex cs && is_checked (bytes_of cs)

-- A kind of line: which bodies it has and which record each stands for, and the body of a record.
pub record Kind (A : Type 0) : Type 0 where
  pub meaning : List ℕ → Option A
  pub body : A → List ℕ

module _ {A : Type 0} where
  -- The record of a line's bytes, and of its characters.
  abbrev pub from_bytes : Kind A → List ℕ → Option A
  from_bytes kind bs = cond (is_checked bs) (kind.meaning (body_of bs)) None

  abbrev pub from_line : Kind A → List ℕ → Option A
  from_line kind cs = cond (is_hex cs) (from_bytes kind (bytes_of cs)) None

  -- The line of a record.
  abbrev pub line_of : Kind A → A → List ℕ
  line_of kind a = framed (kind.body a)
