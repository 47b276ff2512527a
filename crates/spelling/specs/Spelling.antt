-- The words for a call, as a person would type them with every part.
-- Assumes nothing.
use Rattle.std.specs.Prelude.{ℕ, ◌-◌, ◌/◌, ◌%◌, Bool, cond, List, [], ◌∷◌, ◌++◌, ltb, eqb}
use Rattle.line.specs.declared.Call.{Call}
use Rattle.line.specs.declared.Call.TheVariants.{Init, GetEmptyPic, PutPic, OutPic, RefpInit, PocDerivation}
use Rattle.phrases.specs.Phrases.{chars, decimal}

-- A number in two's complement.
abbrev pub signed_decimal : ℕ → List ℕ
signed_decimal n = cond (ltb n 2147483648) (decimal n) (45 ∷ decimal (4294967296 - n))

abbrev pub slice_name : ℕ → List ℕ
slice_name slice = cond (eqb slice 1) (chars "I") (cond (eqb slice 2) (chars "P") (cond (eqb slice 3) (chars "B") (decimal slice)))

abbrev pub when : Bool → List ℕ → List (List ℕ)
when b w = cond b (w ∷ []) []

abbrev pub flag_names : Bool → Bool → Bool → Bool → List (List ℕ)
flag_names idr wanted reference none = when idr (chars "idr") ++ (when wanted (chars "out") ++ (when reference (chars "ref") ++ when none (chars "none")))

abbrev pub is_set : ℕ → Bool
is_set bit = eqb bit 1

abbrev pub flag_words : ℕ → List (List ℕ)
flag_words flags = flag_names (is_set (flags % 2)) (is_set (flags / 2 % 2)) (is_set (flags / 4 % 2)) (is_set (flags / 8 % 2))

abbrev pub call_words : Call → List (List ℕ)
call_words (Init size refs) = chars "init" ∷ decimal size ∷ decimal refs ∷ []
call_words GetEmptyPic = chars "get" ∷ []
call_words (PutPic flags poc layer gap) =
    chars "put" ∷ decimal poc ∷ chars "layer" ∷ decimal layer ∷ chars "gap" ∷ decimal gap ∷ flag_words flags
call_words OutPic = chars "out" ∷ []
call_words (RefpInit slice poc layer intra limit) =
    chars "lists" ∷ slice_name slice ∷ decimal poc ∷ chars "layer" ∷ decimal layer ∷ chars "intra" ∷ signed_decimal intra ∷ chars "limit" ∷ decimal limit ∷ []
call_words (PocDerivation length layer) = chars "derive" ∷ decimal length ∷ decimal layer ∷ []

-- Words with a space between.
abbrev pub spaced : List (List ℕ) → List ℕ
spaced [] = []
spaced (w ∷ []) = w
spaced (w ∷ v ∷ ws) = w ++ (32 ∷ spaced (v ∷ ws))

-- The line of commands for a call.
unfoldable pub say_command : Call → List ℕ
say_command call = spaced (call_words call)
