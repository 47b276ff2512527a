-- Which fields are a call's, and how many bytes they can be.
-- Assumes nothing.
use Rattle.std.specs.Prelude.{is_some}
use Prim.Native.Nat.{ℕ, ◌≤◌}
use native.Mathlib.Omega.{arith}
use mathlib.Core.Path.{◌≡◌, refl, sym, ap, ◌∙◌}
use mathlib.Core.Bool.{Bool, true, false}
use mathlib.Core.List.{List}
use lib.Dec.{leb}
use lib.ListN.{length}
use borrow.Author.Tests.{leb-true, leb-false}
use Rattle.line.proofs.CallLaws.{other-body}
use Rattle.writer.specs.Writing.{is_call_body}

pub body-size : (fields : List ℕ) → is_call_body fields ≡ true → length fields ≤ 12
body-size fields e = by (leb (length fields) 12) refl
  where
    by : (b : Bool) → leb (length fields) 12 ≡ b → length fields ≤ 12
    by true f = leb-true (length fields) 12 f
    by false f = absurd (let h = leb-false (length fields) 12 f in let g = ap is_some (other-body fields (λ n. omega arith) (λ n. omega arith) (λ n. omega arith) (λ n. omega arith)) in let z : ◌≡◌ {A = ℕ} 0 1 = cc (sym g ∙ e) in omega arith)
