-- What an answer brings, in words.
-- Assumes nothing.
use Rattle.std.specs.Prelude.{ℕ, ◌-◌, ◌/◌, ◌%◌, cond, List, ◌++◌, leb}
use Rattle.phrases.specs.Phrases.{chars, decimal}

-- What a picture, the counts of the lists and a derived number look like; that one is in two's complement.
abbrev pub picture_words : ℕ → ℕ → List ℕ
picture_words buf value = chars "buffer " ++ (decimal buf ++ (chars ", number " ++ decimal value))

abbrev pub count_words : ℕ → List ℕ
count_words value = decimal (value / 256) ++ (chars " forward, " ++ (decimal (value % 256) ++ chars " backward"))

abbrev pub signed_words : ℕ → List ℕ
signed_words value = cond (leb value 2147483647) (chars "number " ++ decimal value) (chars "number -" ++ decimal (4294967296 - value))
