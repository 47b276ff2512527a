-- The numbers among the words of a line.
-- Assumes nothing.
use Rattle.std.specs.Prelude.{ℕ, ◌+◌, ◌-◌, ◌*◌, ◌%◌, ◌≡◌, Bool, cond, ◌&&◌, List, [], ◌∷◌, length, eqb, ltb, leb, Option, None, Some}
use mathlib.Core.List.{foldl}
use Rattle.std.specs.Option.{option_map}
use Rattle.std.specs.Str.{all_ascii_digits}

-- Decimal digits, one at least, and what they write.
abbrev pub is_number : List ℕ → Bool
is_number word = ltb 0 (length word) && all_ascii_digits word

abbrev pub value_of : List ℕ → ℕ
value_of word = foldl (λ n c. n * 10 + (c - 48)) 0 word

-- A number from 0 to the most.
abbrev pub number_to : ℕ → List ℕ → Option ℕ
number_to most word = cond (is_number word && leb (value_of word) most) (Some (value_of word)) None

-- A number of 32 bits with a minus in front or without, in two's complement.
abbrev pub signed_number : List ℕ → Option ℕ
signed_number [] = None
signed_number (c ∷ cs) =
    cond (eqb c 45) (option_map (λ n. (4294967296 - n) % 4294967296) (number_to 2147483648 cs)) (number_to 2147483647 (c ∷ cs))

pub record IsNoNumber (word : List ℕ) : Type 0 where
  pub plain : (most : ℕ) → number_to most word ≡ None
  pub signed : signed_number word ≡ None
