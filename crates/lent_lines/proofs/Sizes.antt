-- How large the two parts can be that the writer's answer is made of.
-- Assumes nothing.
use Rattle.std.specs.Prelude.{Result, Ok, Err}
use Prim.Native.Nat.{ℕ, ◌≤◌}
use native.Mathlib.Omega.{arith}
use mathlib.Core.Path.{◌≡◌, refl}
use mathlib.Core.Bool.{Bool, true, false, cond}
use mathlib.Core.List.{List}
use lib.Dec.{ltb}
use lib.ListN.{length}
use lib.Seq.{paste}
use Rattle.def.specs.declared.Refusal.{Refusal}
use Rattle.def.proofs.Refusals.{refusals-in-use}
use Rattle.framing.specs.Framing.{whole_of, line_size}
use Rattle.writer.specs.Writing.{WrittenOut, written_out, is_call_body, written}
use Rattle.writer.proofs.Sizes.{body-size}
use Rattle.lent_lines.specs.LentLines.{written_status, written_length}

pub status-small : (w : Result ℕ Refusal) → written_status w ≤ 20
status-small (Ok n) = omega arith
status-small (Err why) = let h = (refusals-in-use why).1 in omega arith

pub length-small : (fields target : List ℕ) → written_length (written fields target).given ≤ 27
unfolding written
length-small fields target = by (is_call_body fields) (ltb (length target) (line_size fields)) refl
  where
    given : Bool → Bool → WrittenOut
    given a b =
        cond a
        (cond b (written_out (Err Refusal.NoRoom) target)
        (written_out (Ok (line_size fields)) (paste target 0 (whole_of fields) (line_size fields))))
        (written_out (Err Refusal.BadLine) target)

    by : (a b : Bool) → is_call_body fields ≡ a → written_length (given a b).given ≤ 27
    by false b e = omega arith
    by true true e = omega arith
    by true false e = let h = body-size fields e in omega arith
