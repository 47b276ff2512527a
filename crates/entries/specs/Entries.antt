-- Lists by value, and the rows that hold them.
-- Assumes nothing.
use Rattle.std.specs.Prelude.{ℕ, ◌+◌, ◌≡◌, List, length}
use Rattle.def.specs.State.{list_places}
use Rattle.def.specs.declared.{EvcRefP.EvcRefP}
use Rattle.keys.specs.Keys.{rows_length, lists_in}

-- The places of both lists.
abbrev pub places : ℕ
places = list_places + list_places

-- The rows hold these lists.
pub record ListsTaken (refp : List EvcRefP) (rows : List ℕ) : Type 0 where
  pub lists_are : lists_in rows ≡ refp
  pub rows_long : length rows ≡ rows_length
