-- Section 4 of the specification: the depth at each position of a group of 2^k pictures, k from 1 to 4.
-- Assumes nothing.
use Rattle.std.specs.Prelude.{ℕ, ◌+◌, ◌-◌, ◌/◌, Bool, cond, ◌&&◌, ◌||◌, ltb, eqb, List, [], get_or, Result, Ok, Err}
use Rattle.std.specs.Int.Count.{count_trailing_zeros}
use Rattle.def.specs.Binary.{floor_log2}
use Rattle.def.specs.declared.Refusal.{Refusal}
use Rattle.def.specs.declared.Refusal.TheVariants.{BadLength}

-- A group's length is 2, 4, 8 or 16.
abbrev pub is_gop_size : ℕ → Bool
is_gop_size n = eqb n 2 || eqb n 4 || eqb n 8 || eqb n 16

-- `tbl_slice_depth`, j from 0 to 2^k - 2: 2 + floor(log2(j + 1)).
unfoldable pub depth_rule : ℕ → ℕ
unfolding floor_log2
depth_rule j = 2 + floor_log2 (j + 1)

-- `tbl_slice_depth_P`, j from 0 to 2^k - 1: 1 + k less the trailing zero bits of j + 1. The length is 2^k, so k is its logarithm.
unfoldable pub depth_rule_p : ℕ → ℕ → ℕ
unfolding floor_log2 count_trailing_zeros
depth_rule_p n j = 1 + floor_log2 n - count_trailing_zeros 64 (j + 1)

-- 17: the length is none of the four, or the position is outside the row.
unfoldable pub slice_depth : ℕ → ℕ → Result ℕ Refusal
unfolding depth_rule
slice_depth n j = cond (is_gop_size n && ltb (j + 1) n) (Ok (depth_rule j)) (Err BadLength)

unfoldable pub slice_depth_p : ℕ → ℕ → Result ℕ Refusal
unfolding depth_rule_p
slice_depth_p n j = cond (is_gop_size n && ltb j n) (Ok (depth_rule_p n j)) (Err BadLength)

-- Entry j of the row for length n, if it is one of the row's first places.
abbrev pub entry_of : List (List ℕ) → ℕ → ℕ → ℕ → Result ℕ Refusal
entry_of table n places j = cond (ltb j places) (Ok (get_or (get_or table (n / 4) []) j 0)) (Err BadLength)
