-- The words of the refusals, and which one a status has.
-- Assumes nothing.
use Rattle.std.specs.Prelude.{ℕ, cond, List, [], ◌∷◌, leb, get_or}
use Rattle.phrases.specs.Phrases.{chars}

-- The words of the refusals by number. What stands first is for a number that no refusal has; 10 and 12 are withdrawn.
abbrev pub words : List (List ℕ)
words =
    chars "unknown"
    ∷ chars "size too big"
    ∷ chars "rack full"
    ∷ chars "picture still out"
    ∷ chars "nothing out"
    ∷ chars "slot taken"
    ∷ chars "number too high"
    ∷ chars "torn rack"
    ∷ chars "too many references"
    ∷ chars "no references"
    ∷ chars "withdrawn"
    ∷ chars "forward list empty"
    ∷ chars "withdrawn"
    ∷ chars "twin"
    ∷ chars "no such place"
    ∷ chars "bad layer"
    ∷ chars "bad record"
    ∷ chars "bad length"
    ∷ chars "bad line"
    ∷ chars "bad plan"
    ∷ chars "no room"
    ∷ []

abbrev pub word_place : ℕ → ℕ
word_place status = cond (leb status 20) status 0

unfoldable pub status_word : ℕ → List ℕ
status_word status = get_or words (word_place status) []
