-- What an answer says that is made by a test.
-- Assumes nothing.
use Rattle.std.proofs.Common.{◌≡◌, ℕ, Bool, true, false, cond, refl, arith}
use Rattle.std.specs.Prelude.{Some, None}

module _ {A : Type 0} where
  pub test-failed : (b : Bool) (v : A) → cond b (Some v) None ≡ None → b ≡ false
  test-failed true v e = absurd (let z : ◌≡◌ {A = ℕ} 0 1 = cc in omega arith)
  test-failed false v e = refl

  pub test-passed : (b : Bool) (v x : A) → cond b (Some v) None ≡ Some x → (b ≡ true) × (x ≡ v)
  test-passed true v x e = (refl, cc)
  test-passed false v x e = absurd (let z : ◌≡◌ {A = ℕ} 0 1 = cc in omega arith)
