-- Section 8 of the specification, get: which buffer a new picture is in, the lowest one that is in no slot.
-- Assumes nothing.
use Rattle.std.specs.Prelude.{◌≡◌, Bool, false, List, ℕ, ◌<◌, eqb, length, get_or}
use Rattle.seq.specs.Lists.{any_of, smallest_not_in}
use Rattle.keys.specs.Keys.{key_buffers}

-- As many buffer numbers as a key can name.
abbrev pub buffers : ℕ
buffers = 32

abbrev pub key_free : List ℕ → ℕ
key_free keys = smallest_not_in (key_buffers keys)

-- The flags say of each buffer number whether it stands among the numbers.
pub record Held (ns : List ℕ) (flags : List Bool) : Type 0 where
  pub size : length flags ≡ buffers
  pub flag : (b : ℕ) → b < buffers → get_or flags b false ≡ any_of (eqb b) ns
