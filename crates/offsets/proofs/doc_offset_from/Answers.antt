-- `offsets::doc_offset_from` meets its contract: the search ends where it starts, or else at the layer's first offset.
-- Assumes nothing.
use mathlib.Core.Path.{◌≡◌, sym, ap, ◌∙◌}
use mathlib.Core.Bool.{false≢true}
use Prim.Native.Nat.{ℕ, ◌-◌, ◌*◌, ◌%◌, ◌^◌, ◌≤◌, ◌<◌}
use native.Mathlib.Omega.{arith}
use lib.IntN.{ℤ, pos, nat_abs}
use lib.Ieee.{size}
use mir.Syntax.{w32}
use mir.Val.{to_z, of_z}
use mir.ValLaws.{to_z_pos}
use borrow.Author.Tests.{eq-eqb, ne_eqb}
use Rattle.poc.specs.PictureNumber.{offset_from, offset_of}
use Rattle.poc.specs.Domain.{Searched}
use Rattle.poc.specs.Standard.{expected_temporal_id}
use Rattle.poc.proofs.Seek.{expected-digits, layer-digits}
use Rattle.poc.proofs.Offset.{in_layer-gives, in_layer-true, offset_from-here, offset_from-else}
use Rattle.poc.proofs.Words.{shifted, power_le, as-signed}
use Rattle.offsets.proofs.doc_offset_from.Goals as goal

module _ {L t : ℕ} {z : ℤ} (h : Searched L t z) where
  small : offset_of z < 32768
  small = let a = power_le L h.short in let b = h.below in omega arith

  read_back : to_z w32 (of_z w32 z) ≡ pos (offset_of z)
  read_back = let a = small in as-signed z (offset_of z) h.is_offset (omega arith)

  module _ (r : ℕ) (layer : r ≡ expected_temporal_id (nat_abs (to_z w32 (of_z w32 z)))) where
    digits_are : r ≡ size (offset_of z)
    digits_are = layer ∙ ap (λ (x : ℤ). expected_temporal_id (nat_abs x)) read_back ∙ expected-digits (offset_of z)

    here : t ≡ r → offset_from L t (offset_of z) ≡ offset_of z
    here e =
        offset_from-here L t h.layer_low h.layer_high (offset_of z)
        (in_layer-gives t (offset_of z) h.layer_low (layer-digits t (offset_of z) h.layer_low ∙ eq-eqb _ t (sym (e ∙ digits_are))))

    else-first : (t ≡ r → ⊥) → offset_from L t (offset_of z) ≡ 2 ^ (t - 1)
    else-first n =
        offset_from-else L t h.layer_low h.layer_high (offset_of z) h.below
        (λ l. false≢true
        (sym (layer-digits t (offset_of z) h.layer_low ∙ ne_eqb _ t (λ e. n (sym (digits_are ∙ e))))
        ∙ in_layer-true t (offset_of z) h.layer_low l))

  first_below : t - 1 ≤ 15
  first_below = let a = h.layer_high in let b = h.short in omega arith

  first-is : 1 * 2 ^ (t - 1) % 4294967296 ≡ 2 ^ (t - 1)
  first-is = shifted (t - 1) first_below

  first_small : 2 ^ (t - 1) < 2147483648
  first_small = let a = power_le (t - 1) first_below in omega arith

pub returns-then-tid-expected_tid : goal.returns-then-tid-expected_tid
returns-then-tid-expected_tid c =
    let h = c.requires in
    h.is_offset ∙ ap pos (sym (here h _ c.expected_tid.ensures c.if-tid-expected_tid.true))

pub returns : goal.returns
returns c =
    let h = c.requires in
    rw (first-is h) (to_z_pos w32 _ (first_small h) ∙ ap pos (sym (else-first h _ c.expected_tid.ensures c.if-tid-expected_tid.false)))
