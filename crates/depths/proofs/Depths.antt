-- No depth is 0: by one test over each row.
-- Assumes nothing.
use Prim.Native.Nat.{ℕ, ◌+◌, ◌<◌}
use mathlib.Core.Path.{◌≡◌, refl}
use mathlib.Core.Bool.{Bool, true, false, cond, ◌&&◌}
use native.Mathlib.Omega.{arith}
use lib.Count.{count_trailing_zeros}
use lib.Dec.{ltb}
use lib.Ieee as Ieee
use borrow.Author.Tests.{ltb-true}
use Rattle.seq.specs.Lists.{all_of, entries, entries_from}
use Rattle.seq.proofs.Tests.{and_left, and_right}
use Rattle.seq.proofs.Rows.{test_at}
use Rattle.def.specs.Binary.{floor_log2}
use Rattle.def.specs.declared.Refusal.TheVariants.{BadLength}
use Rattle.tbl.specs.DepthRows.{is_gop_size, depth_rule, depth_rule_p, slice_depth, slice_depth_p}
use Rattle.std.specs.Prelude.{Ok, Err}
use Rattle.tbl.proofs.Rows.{each-length}
use Rattle.depths.specs.Depths.{depth_or_zero}
use Rattle.depths.specs.Claims.{DepthZero, DepthPZero}

-- one test over each row
rows_above : (n : ℕ) → is_gop_size n ≡ true → all_of (λ k. ltb 0 (depth_rule_p n k)) (entries (λ k. k) n) ≡ true
unfolding all_of entries entries_from depth_rule_p floor_log2 count_trailing_zeros Ieee.size
rows_above = each-length (λ (n : ℕ). all_of (λ k. ltb 0 (depth_rule_p n k)) (entries (λ k. k) n) ≡ true) refl refl refl refl

above_zero : (n j : ℕ) → is_gop_size n ≡ true → j < n → 0 < depth_rule_p n j
above_zero n j e h = ltb-true 0 (depth_rule_p n j) (test_at (λ k. ltb 0 (depth_rule_p n k)) (λ k. k) n (rows_above n e) j h)

-- where a depth above 0 is shown if the test b holds, a 0 is a refusal
zero-refused : (b : Bool) (d : ℕ) → (b ≡ true → 0 < d) → depth_or_zero (cond b (Ok d) (Err BadLength)) ≡ 0
    → cond b (Ok d) (Err BadLength) ≡ Err BadLength
zero-refused true d above e = let h = above refl in absurd (omega arith)
zero-refused false d above e = refl

pub depth-zero : DepthZero
unfolding slice_depth depth_rule
depth-zero n j = zero-refused (is_gop_size n && ltb (j + 1) n) (depth_rule j) (λ _. omega arith)

pub depth-p-zero : DepthPZero
unfolding slice_depth_p
depth-p-zero n j =
    zero-refused (is_gop_size n && ltb j n) (depth_rule_p n j)
    (λ e. above_zero n j (and_left (is_gop_size n) (ltb j n) e) (ltb-true j n (and_right (is_gop_size n) (ltb j n) e)))
