-- What a writer gets of bytes.
-- Assumes nothing.
use Rattle.std.specs.Prelude.{ℕ, ◌+◌, ◌<◌, ◌≡◌, List, ◌++◌, length, ⊤, Option, None, Some}
use Rattle.std.specs.Io.KnownBytes.{Appends}

-- Where the writer's bytes are known, they grow by a beginning of `bytes`.
pub record AppendsFront (old new : Option (List ℕ)) (bytes : List ℕ) : Type 0 where
  pub front : List ℕ
  pub rest : List ℕ
  pub whole : front ++ rest ≡ bytes
  pub appended : Appends old new front

-- Where the writer's bytes are known, they grow by fewer than `bytes`.
abbrev pub FallsShort : Option (List ℕ) → Option (List ℕ) → List ℕ → Type 0
FallsShort None new bytes = ⊤
FallsShort (Some old) None bytes = ⊥
FallsShort (Some old) (Some new) bytes = length new < length old + length bytes
