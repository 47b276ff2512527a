-- The three registers of the record: what stands elsewhere stays, and the record is read back.
-- Assumes nothing.
use mathlib.Core.Path.{◌≡◌, refl, ◌∙◌}
use mathlib.Core.List.{List}
use Prim.Native.Nat.{ℕ, ◌≤◌, ◌<◌}
use native.Mathlib.Omega.{arith}
use lib.ListN.{length, get_or, set, length-set}
use lib.Seq.{get_or-set_same, get_or-set_other}
use mir.Val.{Val}
use denote.Laws.{Is}
use denote.Struct.Declared.{row}
use Rattle.def.specs.contracts.EvcPoc as poc
use Rattle.def.proofs.WordLaws.{signed-of-complement}
use Rattle.def.specs.Word.{twos_complement}
use Rattle.def.specs.declared.EvcPoc.{EvcPoc}
use Rattle.registers.specs.Registers.{registers_length, rest_of}
use Rattle.recording.specs.Recorded.{Recorded}

module _ (rs : List ℕ) (a b c : ℕ) where
  abbrev one : List ℕ
  one = set rs 3 a

  abbrev two : List ℕ
  two = set one 4 b

  abbrev pub written : List ℕ
  written = set two 5 c

  below : (j : ℕ) → j < 3 → get_or written j 0 ≡ get_or rs j 0
  below j h =
      get_or-set_other two 5 j c 0 (λ e. omega arith)
      ∙ get_or-set_other one 4 j b 0 (λ e. omega arith)
      ∙ get_or-set_other rs 3 j a 0 (λ e. omega arith)

  above : (j : ℕ) → 6 ≤ j → get_or written j 0 ≡ get_or rs j 0
  above j h =
      get_or-set_other two 5 j c 0 (λ e. omega arith)
      ∙ get_or-set_other one 4 j b 0 (λ e. omega arith)
      ∙ get_or-set_other rs 3 j a 0 (λ e. omega arith)

  long : length written ≡ length rs
  long = length-set two 5 c ∙ length-set one 4 b ∙ length-set rs 3 a

  module _ (e : length rs ≡ registers_length) where
    at-number : get_or written 3 0 ≡ a
    at-number =
        get_or-set_other two 5 3 c 0 (λ q. omega arith)
        ∙ get_or-set_other one 4 3 b 0 (λ q. omega arith)
        ∙ get_or-set_same rs 3 a 0 (omega (arith, e))

    at-previous : get_or written 4 0 ≡ b
    at-previous =
        get_or-set_other two 5 4 c 0 (λ q. omega arith)
        ∙ get_or-set_same one 4 b 0 (let l = length-set rs 3 a in omega (arith, l, e))

    at_offset : get_or written 5 0 ≡ c
    at_offset = get_or-set_same two 5 c 0 (let l = length-set one 4 b ∙ length-set rs 3 a in omega (arith, l, e))

  rest-is : rest_of written ≡ rest_of rs
  rest-is =
      rw (
        below 0 (omega arith),
        below 1 (omega arith),
        below 2 (omega arith),
        above 6 (omega arith),
        above 7 (omega arith),
        above 8 (omega arith),
        above 9 (omega arith),
        above 10 (omega arith),
        above 11 (omega arith),
        above 12 (omega arith),
      )
      refl

-- A record of the widths that its type tells.
pub recorded : (rs : List ℕ) (p : EvcPoc) (vs : List Val) → length rs ≡ registers_length → Is (row poc.the_type) p vs
    → Recorded rs (written rs (twos_complement p.poc_val.0) p.prev_poc_val (twos_complement p.prev_doc_offset.0)) p
recorded rs p vs e g =
    let all = g.1.1 in
    let a = twos_complement p.poc_val.0 in
    let b = p.prev_poc_val in
    let c = twos_complement p.prev_doc_offset.0 in
    record {
      rest_stays = rest-is rs a b c;
      poc_is =
          rw (
            at-number rs a b c e,
            at-previous rs a b c e,
            at_offset rs a b c e,
            signed-of-complement p.poc_val.0 all.0.1.1.0.1,
            signed-of-complement p.prev_doc_offset.0 all.1.1.0.1.1.0.1,
          )
          refl;
      still_long = long rs a b c;
    }
