-- Keys from which slots by value can be made.
-- Assumes nothing.
use Rattle.std.specs.Prelude.{ℕ, ◌≤◌, ◌<◌, List, get_or}
use Rattle.def.specs.State.{slots, highest_poc}
use Rattle.keys.specs.Keys.{key_number}

-- Numbers that a picture can have.
abbrev pub KeysFit : List ℕ → Type 0
KeysFit keys = (i : ℕ) → i < slots → key_number (get_or keys i 0) ≤ highest_poc
