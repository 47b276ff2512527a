-- The words of a line: what stands between spaces, up to a `#`, which begins a comment.
-- Assumes nothing.
use Rattle.std.specs.Prelude.{ℕ, Bool, cond, ◌||◌, eqb, List, [], ◌∷◌, ◌++◌}

-- A space, a tab and a carriage return.
abbrev pub is_space : ℕ → Bool
is_space c = eqb c 32 || (eqb c 9 || eqb c 13)

abbrev pub is_hash : ℕ → Bool
is_hash c = eqb c 35

abbrev pub last_word : List ℕ → List (List ℕ)
last_word [] = []
last_word (c ∷ cs) = (c ∷ cs) ∷ []

-- The words of characters, where `word` stands before them.
unfoldable pub words_from : List ℕ → List ℕ → List (List ℕ)
words_from word [] = last_word word
words_from word (c ∷ cs) =
    cond (is_hash c) (last_word word)
    (cond (is_space c) (last_word word ++ words_from [] cs) (words_from (word ++ (c ∷ [])) cs))
