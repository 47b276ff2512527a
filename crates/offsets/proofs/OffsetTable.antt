-- The table of signed offsets by its rule: what each of its 512 places holds, and the law that reads the entry of a length and an
-- offset. That the constant table is the one that the rule makes is one computation over the whole of it, where it is read.
-- Assumes nothing.
use mathlib.Core.Path.{◌≡◌, refl, sym, ap, ◌∙◌, subst}
use mathlib.Core.Bool.{cond}
use mathlib.Core.Logic.{⊎_elim}
use Prim.Native.Nat.{ℕ, zero, suc, ◌+◌, ◌-◌, ◌^◌, ◌≤◌, ◌<◌}
use native.Mathlib.Nat.{two-pow-succ}
use native.Mathlib.Omega.{arith}
use lib.Dec.{eqb}
use lib.IntN.{ℤ, pos}
use lib.ListN.{get_or}
use lib.Pow.{pow_pos, pow_mono}
use lib.Signed.{mag}
use lib.Ieee.{size}
use lib.Ieee.Digits.{size-lt, size-le, size_reaches}
use borrow.Author.Tests.{ne_eqb}
use mir.Syntax.{w16, w32}
use mir.Val.{to_z, of_z, SFits}
use mir.ValLaws.{to_z-of_z}
use Rattle.seq.proofs.Tests.{lt-or-ge}
use Rattle.seq.specs.Lists.{entries}
use Rattle.seq.proofs.Rows.{entry}
use Rattle.def.specs.Binary.{floor_log2}
use Rattle.poc.specs.Standard.{expected_temporal_id}
use Rattle.poc.specs.Domain.{OfLayer, InTable, signed_offset}
use Rattle.poc.proofs.Seek.{expected-digits}
use Rattle.offsets.proofs.Formula.{offset-is}

-- The row of length 2^L: nothing is added for the offset 0, and elsewhere the whole-number formula with the offset's layer.
unfoldable pub row_entry : ℕ → ℕ → ℤ
unfolding expected_temporal_id
row_entry L d = cond (eqb d 0) (pos 0) (signed_offset L (expected_temporal_id d) d)

-- Place i belongs to the length 2^L with L = floor(log2 i).
unfoldable pub entry_at : ℕ → ℤ
unfolding floor_log2 row_entry
entry_at i = row_entry (floor_log2 i) (i - 2 ^ floor_log2 i)

module _ {L d : ℕ} (h : InTable L d) where
  -- the offset belongs to a layer from 1 to L
  layered : OfLayer L (expected_temporal_id d) (pos d)
  layered =
      let e = expected-digits d in
      let a = size-le d L h.below in
      let s = h.short in
      rw e
      (record {
        layer_low = some;
        layer_high = a;
        short = omega arith;
        is_offset = refl;
        offset_low = size_reaches d (size d - 1) (let b = some in omega arith);
        offset_high = size-lt d;
      })
    where
      some : 1 ≤ size d
      some = digit (size d) (size-lt d)
        where
          digit : (k : ℕ) → d < 2 ^ k → 1 ≤ k
          digit zero l = absurd (let a = h.above_zero in omega arith)
          digit (suc k) l = omega arith

  its-length : floor_log2 (2 ^ L + d) ≡ L
  unfolding floor_log2
  its-length =
      let b = h.below in
      let n = 2 ^ L + d in
      let e = two-pow-succ L in
      let top = size-le n (suc L) (omega arith) in
      let low : L < size n = ⊎_elim short (λ k. k) (lt-or-ge (size n) (suc L)) in
      omega arith
    where
      short : size (2 ^ L + d) < suc L → L < size (2 ^ L + d)
      short k =
          let a = size-lt (2 ^ L + d) in
          let c : 2 ^ size (2 ^ L + d) ≤ 2 ^ L = pow_mono (omega arith) in
          absurd (omega arith)

  pub in-range : 2 ^ L + d < 512
  in-range = let a : 2 ^ L ≤ 256 = pow_mono h.short in let b = h.below in omega arith

  -- the entry that is read
  pub entry-is : (i : ℕ) → i ≡ 2 ^ L + d → get_or (entries entry_at 512) i (pos 0) ≡ signed_offset L (expected_temporal_id d) d
  unfolding entry_at row_entry
  entry-is i e =
      let a = h.above_zero in
      let q : 2 ^ L + d - 2 ^ L ≡ d = omega arith in
      let r = in-range in
      entry entry_at (pos 0) 512 i (omega arith) ∙ ap entry_at e
      ∙ rw (its-length, q, ne_eqb d 0 (omega arith))

  -- it is small, so neither 16 bits nor 32 lose anything of it
  small : (m : ℕ) → 256 ≤ m → mag (signed_offset L (expected_temporal_id d) d) < m
  small m l =
      let a : 2 ^ L ≤ 256 = pow_mono h.short in
      let p = pow_pos L in
      rw (offset-is layered) (omega arith)

  module _ {z : ℤ} (e : z ≡ signed_offset L (expected_temporal_id d) d) where
    pub read_back : to_z w16 (of_z w16 z) ≡ signed_offset L (expected_temporal_id d) d
    read_back = rw e (to_z-of_z w16 _ (record { sfits = small 32768 (omega arith) }))

    pub widens : SFits w32 (to_z w16 (of_z w16 z))
    widens = subst (SFits w32) (sym read_back) (record { sfits = small 2147483648 (omega arith) })

    pub widened : to_z w32 (of_z w32 (to_z w16 (of_z w16 z))) ≡ signed_offset L (expected_temporal_id d) d
    widened = to_z-of_z w32 _ widens ∙ read_back
