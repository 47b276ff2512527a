-- `offsets::float_offset` meets its contract: what the machine reads back of its numbers is them, and the formula in `f32` is exact (`proofs/Formula.antt`).
-- Assumes nothing.
use mathlib.Core.Path.{◌≡◌, refl, sym, ap, ◌∙◌, subst}
use Prim.Native.Nat.{ℕ, ◌*◌, ◌%◌, ◌^◌, ◌≤◌}
use native.Mathlib.Nat.{le_trans}
use native.Mathlib.Omega.{arith}
use lib.Dec.{T}
use lib.IntN.{ℤ, pos}
use lib.Ieee.{Float, binary32, in_signed, to_signed}
use lib.Ieee.Casts.{to_signed_in}
use mir.Syntax.{w32}
use mir.Val.{to_z, of_z}
use mir.ValLaws.{to_z-of_z}
use Rattle.poc.specs.PictureNumber.{offset_of}
use Rattle.poc.specs.Domain.{OfLayer}
use Rattle.poc.proofs.Words.{shifted, power_le, as-signed}
use Rattle.offsets.proofs.Formula.{formula, exact}
use Rattle.offsets.proofs.float_offset.Goals as goal

module _ {L t : ℕ} {z : ℤ} (h : OfLayer L t z) where
  layer : t ≤ 15
  layer = le_trans h.layer_high h.short

  small : offset_of z ≤ 32768
  small = let a = h.offset_high in let b = power_le t layer in omega arith

  as_number : OfLayer L t (pos (offset_of z))
  as_number =
      record {
        layer_low = h.layer_low;
        layer_high = h.layer_high;
        short = h.short;
        is_offset = refl;
        offset_low = h.offset_low;
        offset_high = h.offset_high;
      }

  read_back : to_z w32 (of_z w32 z) ≡ pos (offset_of z)
  read_back = let a = small in as-signed z (offset_of z) h.is_offset (omega arith)

  -- the formula as the machine has it
  machine : formula (1 * 2 ^ L % 4294967296) (to_z w32 (of_z w32 z)) (1 * 2 ^ t % 4294967296) ≡ formula (2 ^ L) (pos (offset_of z)) (2 ^ t)
  machine = rw (shifted L h.short, read_back, shifted t layer)

pub float_to_int-result : goal.float_to_int-result
float_to_int-result c =
    let h = c.requires in
    subst (λ (x : Float). T (in_signed binary32 31 x)) (sym (machine h)) (exact (as_number h)).0

pub returns : goal.returns
returns c =
    let h = c.requires in
    to_z-of_z w32 _ (record { sfits = to_signed_in 31 _ }) ∙ ap (to_signed 31) (machine h) ∙ (exact (as_number h)).1
