-- A pass in plain numbers: what it asks, and what it does.
-- Assumes nothing.
use Rattle.std.specs.Prelude.{ℕ, ◌-◌, ◌≡◌, cond, List, ltb, Option, Some, None}
use Rattle.ordering.specs.Order.{Key}
use Rattle.ordering.specs.InNumbers.{keys_in}
use Rattle.passes.specs.declared.{Direction.Direction, PassRule.PassRule, BoundAfter.BoundAfter}
use Rattle.passes.specs.declared.BoundAfter.TheVariants.{BelowTaken, Fixed}
use Rattle.passes.specs.Passes.{Ask, Progress, below, takes_key}

-- The place of the key that comes after i others.
abbrev pub place_of : Direction → ℕ → ℕ → ℕ
place_of Direction.Down num i = i
place_of Direction.Up num i = num - 1 - i

-- ---- what a pass asks

abbrev pub bound_after : BoundAfter → ℕ → ℕ
bound_after BelowTaken layer = below layer
bound_after (Fixed bound) layer = bound

abbrev pub ask_in : PassRule → Ask
ask_in r = record {
  limit = r.limit;
  poc = r.poc;
  old = λ k. ltb k.poc r.oldest;
  start = r.start;
  after = bound_after r.after;
}

-- Two requests ask the same.
pub record SameAsk (a b : Ask) : Type 0 where
  pub same_limit : a.limit ≡ b.limit
  pub same_poc : a.poc ≡ b.poc
  pub same_old : (k : Key) → a.old k ≡ b.old k
  pub same_start : a.start ≡ b.start
  pub same_after : (layer : ℕ) → a.after layer ≡ b.after layer

-- ---- what a pass does

-- One step from so many entries and a bound: the bound after a picture that is taken.
abbrev pub pass_step : Ask → Direction → ℕ → ℕ → Key → Option ℕ
pass_step a way cnt bound k = cond (takes_key a way cnt bound k) (Some (a.after k.layer)) None

-- How far a pass has come: the list so far as its keys stand, and the bound.
abbrev pub progress_in : List ℕ → ℕ → Progress
progress_in list bound = record { list = keys_in list; bound = bound }
