-- What is known of the four lengths, each by computing. Assumes nothing.
use Prim.Native.Nat.{ℕ, zero, suc, ◌+◌, ◌-◌, ◌%◌, ◌^◌, ◌≤◌, ◌<◌}
use native.Mathlib.Omega.{arith}
use mathlib.Core.Path.{◌≡◌, refl}
use mathlib.Core.Bool.{true}
use mathlib.Core.List.{List, [], ◌∷◌}
use lib.Dec.{leb}
use lib.Ieee as Ieee
use borrow.Author.Tests.{leb-true}
use Rattle.seq.specs.Lists.{all_of, entries, entries_from}
use Rattle.seq.proofs.Rows.{test_at}
use Rattle.def.specs.Binary.{floor_log2}
use Rattle.tbl.specs.DepthRows.{is_gop_size, depth_rule}
use Rattle.tbl.proofs.Rows.{each-length}
use Rattle.poc.specs.PictureNumber.{max_poc, max_log2}
use Rattle.poc.specs.FullRun.{layers_from, full_layers}
use Rattle.gop.specs.Plan.{depth_of}

-- the layer of a place from 1 to length - 1, and those of k places from j on
abbrev pub layer_at : ℕ → ℕ
layer_at j = depth_of j - 1

unfoldable pub layers_at : ℕ → ℕ → List ℕ
layers_at j zero = []
layers_at j (suc k) = layer_at j ∷ layers_at (j + 1) k

pub record Length (n : ℕ) : Type 0 where
  pub above-one : 2 ≤ n
  pub power : 2 ^ floor_log2 n ≡ n
  pub short : floor_log2 n ≤ max_log2
  pub last-depth : depth_of (n - 1) ≡ floor_log2 n + 1
  -- no place has a layer above the logarithm
  pub layers-fit : all_of (λ k. leb (layer_at (k + 1)) (floor_log2 n)) (entries (λ k. k) (n - 1)) ≡ true
  -- the places' layers are those of the full run
  pub full : layers_at 1 (n - 1) ≡ full_layers (floor_log2 n)
  -- a multiple has its whole group below 2^31
  pub room : (p : ℕ) → p % n ≡ 0 → p ≤ max_poc → p + n ≤ max_poc + 1

pub a-length : (n : ℕ) → is_gop_size n ≡ true → Length n
unfolding floor_log2 depth_rule Ieee.size Ieee.span Ieee.climb all_of entries entries_from layers_from layers_at
a-length =
    each-length Length
    (record { above-one = omega arith; power = refl; short = omega arith; last-depth = refl; layers-fit = refl; full = refl; room = λ p m h. omega arith })
    (record { above-one = omega arith; power = refl; short = omega arith; last-depth = refl; layers-fit = refl; full = refl; room = λ p m h. omega arith })
    (record { above-one = omega arith; power = refl; short = omega arith; last-depth = refl; layers-fit = refl; full = refl; room = λ p m h. omega arith })
    (record { above-one = omega arith; power = refl; short = omega arith; last-depth = refl; layers-fit = refl; full = refl; room = λ p m h. omega arith })

pub layer_fits : (n j : ℕ) → Length n → 1 ≤ j → j < n → layer_at j ≤ floor_log2 n
layer_fits n j l low high =
    let e : j - 1 + 1 ≡ j = omega arith in
    leb-true (layer_at j) (floor_log2 n)
    (rw e at (test_at (λ k. leb (layer_at (k + 1)) (floor_log2 n)) (λ k. k) (n - 1) l.layers-fit (j - 1) (omega arith)))
