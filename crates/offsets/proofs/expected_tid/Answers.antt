-- `offsets::expected_tid` meets its contract: what the leading zeros leave of a word is the digits of the number.
-- Assumes nothing.
use mathlib.Core.Path.{◌≡◌, sym, ◌∙◌}
use Prim.Native.Nat.{ℕ, suc, ◌+◌, ◌-◌, ◌^◌, ◌≤◌, ◌<◌}
use native.Mathlib.Nat.{le_antisymm, le_of_suc-le-suc, lt_of_not-le, two-pow-succ}
use native.Mathlib.Omega.{arith}
use lib.Count.{count_leading_zeros, leading_length}
use lib.Pow.{pow_mono}
use lib.Ieee.{size}
use lib.Ieee.Digits.{size-lt, size-le}
use Rattle.poc.proofs.Seek.{expected-digits}
use Rattle.offsets.proofs.expected_tid.Goals as goal

-- a length that is not too long is the number of digits
no_longer : (n m : ℕ) → 2 ^ m ≤ n + n + 1 → m ≤ size n
no_longer n m h =
    le_of_suc-le-suc (lt_of_not-le (λ (g : suc (size n) ≤ m).
    let a : 2 ^ suc (size n) ≤ 2 ^ m = pow_mono g in
    let b = two-pow-succ (size n) in
    let c = size-lt n in
    omega arith))

digits : (n : ℕ) → n < 2 ^ 32 → 32 - count_leading_zeros 32 n ≡ size n
digits n h =
    let l = leading_length 32 n h in
    let a = l.3 in
    let e : l.0 ≡ size n = le_antisymm (no_longer n l.0 (omega arith)) (size-le n l.0 l.2) in
    let b = l.1 in
    omega arith

pub returns : goal.returns
returns c = digits c.args.doc_offset c.ranges.doc_offset.fits ∙ sym (expected-digits c.args.doc_offset)
