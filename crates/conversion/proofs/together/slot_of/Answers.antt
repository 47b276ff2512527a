-- an empty slot's numbers are zero, a picture's are its row. Assumes nothing.
use mathlib.Core.Path.{refl, sym, ◌∙◌}
use native.Mathlib.Omega.{arith}
use Rattle.conversion.proofs.together.slot_of.Goals as goal

pub returns-then-not-is_present : goal.returns-then-not-is_present
returns-then-not-is_present c =
    let e = sym c.is_present.ensures ∙ c.if-not-is_present.true in
    c.slot_with.ensures ∙ rw e refl

pub read_row-requires : goal.read_row-requires
read_row-requires c =
    let b = c.buffer_of.ensures in
    (c.requires.0, omega arith)

pub returns : goal.returns
returns c =
    let e = sym c.is_present.ensures ∙ c.if-not-is_present.false in
    let b = c.buffer_of.ensures.0 in
    c.slot_with-2.ensures ∙ rw (c.read_row.ensures, b, e) refl
