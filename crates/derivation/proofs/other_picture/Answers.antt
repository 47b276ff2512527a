-- `derivation::other_picture` meets its contract: each number of the code is the definition's, step by step.
-- Assumes nothing.
use borrow.Author.Rules.{rules}
use mathlib.Core.Path.{◌≡◌, refl, sym, ap, ap₂, ◌∙◌}
use mathlib.Core.Bool.{false}
use Prim.Native.Nat.{ℕ, ◌+◌, ◌*◌, ◌%◌, ◌^◌, ◌≤◌, ◌<◌}
use native.Mathlib.Nat.{mod-lt}
use native.Mathlib.Omega.{arith}
use lib.IntN.{ℤ, pos, nat_abs, ◌+ℤ◌}
use lib.Pow.{pow_pos}
use mir.Syntax.{w32}
use mir.Val.{to_z, of_z, SFits}
use mir.ValLaws.{to_z-of_z, to_z_pos}
use borrow.Author.Tests.{eq-eqb, ne_eqb}
use Rattle.def.specs.declared.EvcPoc.{EvcPoc}
use Rattle.poc.specs.PictureNumber.{max_poc, too_high, offset_of, offset_from, number, next_offset, next_previous}
use Rattle.poc.specs.Domain.{Checked, OfLayer, signed_offset}
use Rattle.poc.proofs.Offset.{offset_from-lands}
use Rattle.poc.specs.Number.{derived_as}
use Rattle.poc.proofs.Settled.{settled-fits, sum_is, sum_low, sum-mag}
use Rattle.poc.proofs.Words.{shifted, power_le, as-signed}
use Rattle.offsets.proofs.Formula.{stays-below}
use Rattle.derivation.proofs.other_picture.Goals as goal
use Rattle.derivation.proofs.other_picture.Goals.{Joined-next-eq0, After-doc_offset_from-prev_doc_offset, After-poc_offset, then-next-eq0, else-next-eq0}

-- ---- over the definitions
-- the offset that the search starts from, as the machine has it
abbrev machine-next : ℕ → ℤ → ℕ
machine-next L z = (nat_abs (to_z w32 (of_z w32 z)) + 1) % (1 * 2 ^ L % 4294967296)

-- the offset that the search finds
abbrev found : ℕ → ℕ → EvcPoc → ℕ
found L t r = offset_from L t (next_offset L r)

module _ {L t : ℕ} {r : EvcPoc} (h : Checked L t r) where
  read_back : to_z w32 (of_z w32 r.prev_doc_offset.0) ≡ pos (offset_of r.prev_doc_offset.0)
  read_back = let a = h.offset in as-signed _ _ h.is_offset (omega arith)

  next-is : machine-next L r.prev_doc_offset.0 ≡ next_offset L r
  next-is = rw (read_back, shifted L h.short)

  next-below : next_offset L r < 2 ^ L
  next-below = mod-lt _ (pow_pos L)

  next_small : next_offset L r < 2147483648
  next_small = let a = power_le L h.short in let b = next-below in omega arith

  next-signed : to_z w32 (machine-next L r.prev_doc_offset.0) ≡ pos (next_offset L r)
  next-signed = rw next-is (to_z_pos w32 _ next_small)

  found-layer : 1 ≤ t → OfLayer L t (pos (found L t r))
  found-layer low =
      let l = offset_from-lands L t low h.layer (next_offset L r) next-below in
      record { layer_low = low; layer_high = h.layer; short = h.short; is_offset = refl; offset_low = l.low; offset_high = l.high }

  -- the new number, where previous is not too high
  module _ (low : 1 ≤ t) (fits : next_previous L r ≤ max_poc) where
    number_is : pos (next_previous L r) +ℤ signed_offset L t (found L t r) ≡ number (next_previous L r) L t (found L t r)
    number_is = sum_is (next_previous L r) _ (2 ^ L) (stays-below (found-layer low))

    number-low : too_high (number (next_previous L r) L t (found L t r)) ≡ false
    number-low = sum_low (next_previous L r) _ (2 ^ L) (stays-below (found-layer low)) fits

    number_fits : SFits w32 (number (next_previous L r) L t (found L t r))
    number_fits =
        let a = power_le L h.short in
        record { sfits = sum-mag (next_previous L r) _ (2 ^ L) (stays-below (found-layer low)) 2147483648 (omega arith) (omega arith) }

-- where the arms meet, previous is as the definition has it
previous-is : (c : Joined-next-eq0) → c.if-next-eq0.prev_poc_val ≡ next_previous c.args.log2_sub_gop_length c.args.poc
previous-is c =
    let h = c.requires.1 in
    elim c.if-next-eq0.branch [
      | then-next-eq0 w ↦ w.prev_poc_val-is ∙ rw (shifted _ h.short, eq-eqb _ 0 (sym (next-is h) ∙ w.if-next-eq0.true))
      | else-next-eq0 w ↦ w.prev_poc_val-is ∙ rw (ne_eqb _ 0 (λ e. w.if-next-eq0.false (next-is h ∙ e)))
    ]

-- the search's result
found-is : (c : After-doc_offset_from-prev_doc_offset)
    → c.doc_offset_from-prev_doc_offset.result.0 ≡ pos (found c.args.log2_sub_gop_length c.args.tid c.args.poc)
found-is c =
    c.doc_offset_from-prev_doc_offset.ensures
    ∙ ap (λ (z : ℤ). pos (offset_from c.args.log2_sub_gop_length c.args.tid (offset_of z))) (next-signed c.requires.1)

pub poc_offset-requires : goal.poc_offset-requires
poc_offset-requires c =
    let p = c.requires in
    rw (found-is (goal.at.poc_offset-requires c).After-doc_offset_from-prev_doc_offset) (found-layer p.1 p.0)

-- previous, which is not too high, and the signed offset, as the machine adds them
record Summed (L t : ℕ) (r : EvcPoc) (prev : ℕ) (offset : ℤ) : Type 0 where
  fits : next_previous L r ≤ max_poc
  is : to_z w32 prev +ℤ to_z w32 (of_z w32 offset) ≡ number (next_previous L r) L t (found L t r)

sum : (c : After-poc_offset) → Summed c.args.log2_sub_gop_length c.args.tid c.args.poc c.if-next-eq0.prev_poc_val c.poc_offset.result
sum c =
    let g = goal.at.overflow_add-number c in
    let L = c.args.log2_sub_gop_length in
    let t = c.args.tid in
    let r = c.args.poc in
    let p = c.requires in
    let fits : next_previous L r ≤ max_poc = rw (previous-is g.Joined-next-eq0) at c.if-prev_poc_val-gt-MAX_POC.false in
    let read : to_z w32 (of_z w32 c.poc_offset.result) ≡ c.poc_offset.result = search rules in
    record {
      fits = fits;
      is =
          ap₂ (λ (x y : ℤ). x +ℤ y)
          (ap (to_z w32) (previous-is g.Joined-next-eq0) ∙ to_z_pos w32 _ (omega arith))
          (read ∙ c.poc_offset.ensures ∙ ap (λ (z : ℤ). signed_offset L t (offset_of z)) (found-is g.After-doc_offset_from-prev_doc_offset))
          ∙ number_is p.1 p.0 fits;
    }

pub overflow_add-number : goal.overflow_add-number
overflow_add-number c = let p = c.requires in let s = sum c in rw s.is (number_fits p.1 p.0 s.fits)

pub returns : goal.returns
returns c =
    let g = goal.at.returns c in
    let r = c.args.poc in
    let L = c.args.log2_sub_gop_length in
    let t = c.args.tid in
    let p = c.requires in
    let s = sum g.After-poc_offset in
    let is_number = ap (λ (z : ℤ). to_z w32 (of_z w32 z)) s.is ∙ to_z-of_z w32 _ (number_fits p.1 p.0 s.fits) in
    ap₂ (λ (z : ℤ) (prev : ℕ). derived_as (record { 0 = z }) prev c.doc_offset_from-prev_doc_offset.result) is_number
    (previous-is g.Joined-next-eq0)
    ∙ ap (λ (w : ℤ). derived_as (record { 0 = number (next_previous L r) L t (found L t r) }) (next_previous L r) (record { 0 = w }))
    (found-is g.After-doc_offset_from-prev_doc_offset)
    ∙ sym (settled-fits r (number (next_previous L r) L t (found L t r)) (next_previous L r) (found L t r) (number-low p.1 p.0 s.fits) s.fits)
