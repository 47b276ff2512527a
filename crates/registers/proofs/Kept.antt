-- Scalars that are written are read back: each number fits its width, as its type tells.
-- Assumes nothing.
use Prim.Native.Nat.{ℕ, ◌+◌, ◌*◌, ◌/◌, ◌%◌, ◌^◌, ◌<◌, min}
use mathlib.Core.List.{List}
use mathlib.Core.Path.{◌≡◌, refl, ap}
use native.Mathlib.Omega.{arith}
use lib.IntN.{ℤ}
use lib.Signed.{mag}
use mir.Syntax.{w32}
use mir.Val.{Val, to_z, of_z}
use mir.ValLaws.{to_z-of_z}
use denote.Laws.{Is}
use denote.Struct.Declared.{row}
use Rattle.keys.specs.contracts.Rest as rest
use Rattle.def.specs.contracts.EvcPoc as poc
use Rattle.def.specs.Word.{twos_complement}
use Rattle.def.proofs.WordLaws.{signed-of-complement}
use Rattle.def.specs.declared.EvcPoc.{EvcPoc}
use Rattle.keys.specs.declared.Rest.{Rest}
use Rattle.registers.specs.Registers.{highest_count, rest_of, poc_of, registers_of}

-- what the machine reads of a field's bits is the field
pub bits : (z : ℤ) → mag z < 2 ^ 31 → twos_complement (to_z w32 (of_z w32 z)) ≡ twos_complement z
bits z h = ap twos_complement (to_z-of_z w32 z (record { sfits = h }))

count_kept : (n : ℕ) → n < 256 → min n highest_count ≡ n
count_kept n h = omega arith

halves : (n : ℕ) → n % 2 ^ 32 + n / 2 ^ 32 * 2 ^ 32 ≡ n
halves n = omega arith

pub rest-kept : (r : Rest) (p : EvcPoc) (vs : List Val) → Is (row rest.the_type) r vs → rest_of (registers_of r p) ≡ r
rest-kept r p vs g =
    let all = g.1.1 in
    let counts = all.1 in
    rw (
      halves r.lease,
      count_kept r.max_pb_size (omega (arith, counts.0.1)),
      count_kept r.max_num_ref_pics (omega (arith, counts.1.0.1)),
      count_kept r.cur_pb_size (omega (arith, counts.1.1.0.1)),
      count_kept r.cur_num_ref_pics (omega (arith, counts.1.1.1.0.1)),
      count_kept r.num_refp_0 (omega (arith, counts.1.1.1.1.0.1)),
      count_kept r.num_refp_1 (omega (arith, counts.1.1.1.1.1.0.1)),
      count_kept r.poc_increase (omega (arith, counts.1.1.1.1.1.1.1.0.1)),
    )
    refl

pub poc-kept : (r : Rest) (p : EvcPoc) (vs : List Val) → Is (row poc.the_type) p vs → poc_of (registers_of r p) ≡ p
poc-kept r p vs g =
    let all = g.1.1 in
    rw (signed-of-complement p.poc_val.0 all.0.1.1.0.1, signed-of-complement p.prev_doc_offset.0 all.1.1.0.1.1.0.1) refl
