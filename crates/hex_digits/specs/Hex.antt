-- Hex digits: a line is written in pairs of them, a byte a pair.
-- Assumes nothing.
use Rattle.std.specs.Prelude.{ℕ, ◌+◌, ◌-◌, ◌*◌, ◌/◌, ◌%◌, Bool, cond, ◌&&◌, ◌||◌, List, [], ◌∷◌, leb, ltb, eqb, length}
use Rattle.seq.specs.Lists.{all_of}
pub use Rattle.def.specs.Word.{word, word_bytes}

-- 0 to 9 and a to f, as characters: lower case only.
abbrev pub is_digit : ℕ → Bool
is_digit c = (leb 48 c && leb c 57) || (leb 97 c && leb c 102)

abbrev pub digit_value : ℕ → ℕ
digit_value c = cond (leb c 57) (c - 48) (c - 87)

abbrev pub digit_of : ℕ → ℕ
digit_of n = cond (ltb n 10) (48 + n) (87 + n)

-- The bytes that pairs of digits stand for; a digit left over stands for none.
unfoldable pub bytes_of : List ℕ → List ℕ
bytes_of [] = []
bytes_of (c ∷ []) = []
bytes_of (high ∷ low ∷ cs) = (16 * digit_value high + digit_value low) ∷ bytes_of cs

-- The digits of bytes, high one first.
unfoldable pub digits_of : List ℕ → List ℕ
digits_of [] = []
digits_of (b ∷ bs) = digit_of (b / 16) ∷ digit_of (b % 16) ∷ digits_of bs

abbrev pub is_hex : List ℕ → Bool
is_hex cs = all_of is_digit cs && eqb (length cs % 2) 0

-- The sum of bytes, wrapping at 256.
unfoldable pub sum8 : List ℕ → ℕ
sum8 [] = 0
sum8 (b ∷ bs) = (b + sum8 bs) % 256

-- What brings the sum to zero.
abbrev pub check_byte : List ℕ → ℕ
check_byte bs = (256 - sum8 bs) % 256

-- The value of a character as readers have it: 255 where it is no digit.
abbrev pub no_digit : ℕ
no_digit = 255

abbrev pub char_value : ℕ → ℕ
char_value c = cond (is_digit c) (digit_value c) no_digit
