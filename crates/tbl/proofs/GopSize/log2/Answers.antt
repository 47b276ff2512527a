-- `tbl::GopSize::log2` meets its contract: the powers round the length are those of the definition. Assumes nothing.
use Prim.Native.Nat.{ℕ, suc, ◌*◌, ◌^◌, ◌≤◌, ◌<◌}
use native.Mathlib.Nat.{lt_of_not-le, two-pow-succ}
use native.Mathlib.Omega.{arith}
use mathlib.Core.Path.{◌≡◌}
use lib.Ieee.{size}
use lib.Ieee.Digits.{size-lt, size-le}
use lib.Pow.{pow_mono}
use Rattle.def.specs.Binary.{floor_log2}
use Rattle.tbl.proofs.GopSize.log2.Goals as goal

log-is : (n r : ℕ) → 2 ^ r ≤ n → n < 2 * 2 ^ r → r ≡ floor_log2 n
unfolding floor_log2
log-is n r low high =
    let a : size n ≤ suc r = size-le n (suc r) (rw (two-pow-succ r) (omega arith)) in
    let b : r < size n = lt_of_not-le (λ (g : size n ≤ r). let e : 2 ^ size n ≤ 2 ^ r = pow_mono g in let f = size-lt n in omega arith) in
    omega arith

pub returns : goal.returns
returns c = log-is c.args.self.pictures c.ilog2.result c.ilog2.ensures.power_le c.ilog2.ensures.next_power_gt
