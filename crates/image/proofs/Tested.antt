-- A test of each place of a range, one after the other.
-- Assumes nothing.
use mathlib.Core.Path.{◌≡◌, refl, ap, ◌∙◌}
use mathlib.Core.Bool.{Bool, ◌&&◌}
use Prim.Native.Nat.{ℕ, zero, suc}
use native.Mathlib.Numerals.{add-one}
use Rattle.std.specs.List.{list_all, range_with_len}
use Rattle.seq.specs.Lists.{all_of, entries, entries_from}

module _ {A : Type 0} (p : A → Bool) (rule : ℕ → A) where
  from : (i n : ℕ) → list_all (λ k. p (rule k)) (range_with_len i n) ≡ all_of p (entries_from rule i n)
  unfolding all_of entries_from
  from i zero = refl
  from i (suc n) =
      ap (λ (j : ℕ). p (rule i) && list_all (λ k. p (rule k)) (range_with_len j n)) (add-one i)
      ∙ ap (λ (b : Bool). p (rule i) && b) (from (suc i) n)

  pub each-place : (n : ℕ) → list_all (λ k. p (rule k)) (range_with_len 0 n) ≡ all_of p (entries rule n)
  unfolding entries
  each-place n = from 0 n
