-- `offsets::poc_offset` meets its contract: by the table or in `f32` it is the same whole number.
-- Assumes nothing.
use mathlib.Core.Path.{◌≡◌, ◌∙◌}
use Prim.Native.Nat.{ℕ, ◌-◌, ◌^◌, ◌≤◌, ◌<◌}
use native.Mathlib.Omega.{arith}
use lib.IntN.{ℤ, pos, nat_abs}
use lib.Pow.{pow_pos, pow_mono}
use mir.Syntax.{w32}
use mir.Val.{to_z, of_z}
use Rattle.poc.specs.PictureNumber.{offset_of}
use Rattle.poc.specs.Domain.{OfLayer, InTable, signed_offset}
use Rattle.poc.specs.Standard.{expected_temporal_id}
use Rattle.poc.proofs.Offset.{digits}
use Rattle.poc.proofs.Seek.{expected-digits}
use Rattle.offsets.proofs.OffsetTable.{widened}
use Rattle.poc.proofs.Words.{power_le, as-signed}
use Rattle.offsets.proofs.poc_offset.Goals as goal

module _ {L t : ℕ} {z : ℤ} (h : OfLayer L t z) where
  below : offset_of z < 2 ^ L
  below = let a = h.offset_high in let b = pow_mono h.layer_high in omega arith

  read_back : to_z w32 (of_z w32 z) ≡ pos (offset_of z)
  read_back = let a = below in let b = power_le L h.short in as-signed z (offset_of z) h.is_offset (omega arith)

  -- an offset of a layer above 0 is not 0
  asked : L ≤ 8 → InTable L (nat_abs (to_z w32 (of_z w32 z)))
  asked s =
      let a = h.offset_low in
      let b = pow_pos (t - 1) in
      rw read_back (record { short = s; above_zero = omega arith; below = below })

  its-layer : expected_temporal_id (offset_of z) ≡ t
  its-layer = expected-digits (offset_of z) ∙ digits t (offset_of z) h.layer_low (record { low = h.offset_low; high = h.offset_high })

  -- what the table gives is the layer's
  by-layer : let d = nat_abs (to_z w32 (of_z w32 z)) in signed_offset L (expected_temporal_id d) d ≡ signed_offset L t (offset_of z)
  by-layer = rw (read_back, its-layer)

pub table_offset-requires : goal.table_offset-requires
table_offset-requires c = asked c.requires (omega arith)

pub returns : goal.returns
returns c =
    let h = c.requires in
    widened (asked h (omega arith)) c.table_offset.ensures ∙ by-layer h
