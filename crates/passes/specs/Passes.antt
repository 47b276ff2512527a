-- The passes over the order of the marked pictures, and the list that they fill.
-- Assumes nothing.
use Rattle.std.specs.Prelude.{ℕ, ◌-◌, max, Bool, cond, not, ◌&&◌, leb, ltb, length}
use mathlib.Core.List.{List, [], ◌∷◌, ◌++◌, reverse, foldl}
use Rattle.passes.specs.declared.{Direction.Direction, Walk.Walk}
use Rattle.ordering.specs.Order.{Key}

-- ---- what is asked

-- The layer below a layer; below layer 0 stands layer 0 itself.
abbrev pub below : ℕ → ℕ
below layer = max layer 1 - 1

-- A request: the list limit, the current number, which pictures are old where the age test applies, and the bounds.
pub record Ask : Type 0 where
  pub limit : ℕ
  pub poc : ℕ
  pub old : Key → Bool
  pub start : ℕ
  pub after : ℕ → ℕ

-- ---- one pass

abbrev pub opposite : Direction → Direction
opposite Direction.Down = Direction.Up
opposite Direction.Up = Direction.Down

-- Down walks from the highest number, up from the lowest.
abbrev pub walked : Direction → List Key → List Key
walked Direction.Down ks = ks
walked Direction.Up ks = reverse ks

-- Down takes lower numbers than the current one, up higher ones.
abbrev pub side_of : Direction → ℕ → Key → Bool
side_of Direction.Down poc k = ltb k.poc poc
side_of Direction.Up poc k = ltb poc k.poc

-- A picture is taken if the list is not full, the picture is not old and stands on the side of the pass, and its layer is within the bound.
abbrev pub takes_key : Ask → Direction → ℕ → ℕ → Key → Bool
takes_key a way cnt bound k = ltb cnt a.limit && (not (a.old k) && (side_of way a.poc k && leb k.layer bound))

-- How far a pass has come: the list so far, and the bound.
pub record Progress : Type 0 where
  pub list : List Key
  pub bound : ℕ

-- What is taken goes to the end of the list, and its layer sets the bound; any other picture is passed over.
abbrev pub step_on : Ask → Direction → Progress → Key → Progress
step_on a way p k = cond (takes_key a way (length p.list) p.bound k) (record { list = p.list ++ (k ∷ []); bound = a.after k.layer }) p

-- A pass from there on: step by step over the pictures, in the order of the walk.
unfoldable pub pass_on : Ask → Direction → Progress → List Key → Progress
pass_on a way p ks = foldl (step_on a way) p ks

-- The bound is reset at the start of each pass.
unfoldable pub pass : Ask → Direction → List Key → List Key → List Key
unfolding pass_on
pass a way ks list = (pass_on a way (record { list = list; bound = a.start }) (walked way ks)).list

-- ---- one list

-- One pass, and then one in the other direction on its list.
abbrev pub both_ways : Ask → Direction → List Key → List Key
both_ways a way ks = pass a (opposite way) ks (pass a way ks [])

abbrev pub list_of : Ask → Walk → List Key → List Key
list_of a Walk.Down ks = pass a Direction.Down ks []
list_of a Walk.DownThenUp ks = both_ways a Direction.Down ks
list_of a Walk.UpThenDown ks = both_ways a Direction.Up ks
