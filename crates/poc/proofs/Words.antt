-- What the machine makes of the numbers here, which are small: a power of two by a shift, and a signed number read back from its bits.
-- Assumes nothing.
use mathlib.Core.Path.{◌≡◌, ◌∙◌}
use Prim.Native.Nat.{ℕ, ◌*◌, ◌%◌, ◌^◌, ◌≤◌, ◌<◌}
use native.Mathlib.Nat.{one-mul}
use native.Mathlib.Omega.{arith}
use lib.Dec.{lit<}
use lib.IntN.{ℤ, pos}
use lib.Pow.{shl_exact, pow_mono}
use mir.Syntax.{w32}
use mir.Val.{to_z, of_z}
use mir.ValLaws.{to_z-of_z}

-- 1 << k
pub shifted : (k : ℕ) → k ≤ 15 → 1 * 2 ^ k % 4294967296 ≡ 2 ^ k
shifted k h = shl_exact 1 k 32 (lit< tt) (omega arith) ∙ one-mul (2 ^ k)

pub power_le : (k : ℕ) → k ≤ 15 → 2 ^ k ≤ 32768
power_le k h = pow_mono h

-- a number below 2^31 is itself as an i32
pub as-signed : (z : ℤ) (n : ℕ) → z ≡ pos n → n < 2147483648 → to_z w32 (of_z w32 z) ≡ pos n
as-signed z n e h = rw e (to_z-of_z w32 (pos n) (record { sfits = h }))
