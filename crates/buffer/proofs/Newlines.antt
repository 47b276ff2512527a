-- Where the first newline stands, as the library's search has it and as the definitions do.
-- Assumes nothing.
use Rattle.std.proofs.Common.{◌≡◌, ℕ, ◌+◌, ◌-◌, Bool, true, false, cond, ltb, List, length, suc, ap, refl, ◌∙◌, arith, ltb-false}
use lib.ListN.{take, drop, length-drop}
use lib.Seq.{take_all}
use Rattle.std.specs.Prelude.{Some, None, position}
use Rattle.std.specs.List.{position_or_len}
use Rattle.std.proofs.lemmas.List.Recursion.{is_position_or_len}
use Rattle.seq.specs.Lists.{lowest}
use Rattle.seq.proofs.Walks.{lowest-le}

module _ (p : ℕ → Bool) where
  lowest-is : (xs : List ℕ) → lowest p xs ≡ position_or_len p xs
  unfolding lowest
  lowest-is = is_position_or_len (lowest p) p refl (λ x xs. ap (λ (n : ℕ). cond (p x) 0 n) (one (lowest p xs)))
    where
      one : (n : ℕ) → suc n ≡ 1 + n
      one n = omega arith

  hit : (b : Bool) (k i : ℕ) → cond b (Some k) None ≡ Some i → k ≡ i
  hit true k i e = cc
  hit false k i e = absurd (let z : ◌≡◌ {A = ℕ} 0 1 = cc in omega arith)

  miss : (b : Bool) (k : ℕ) → cond b (Some k) None ≡ None → b ≡ false
  miss true k e = absurd (let z : ◌≡◌ {A = ℕ} 0 1 = cc in omega arith)
  miss false k e = refl

  pub first-at : (xs : List ℕ) (i : ℕ) → position p xs ≡ Some i → lowest p xs ≡ i
  first-at xs i e = lowest-is xs ∙ hit (ltb (position_or_len p xs) (length xs)) (position_or_len p xs) i e

  pub none-there : (xs : List ℕ) → position p xs ≡ None → lowest p xs ≡ length xs
  none-there xs e =
      let past = ltb-false (position_or_len p xs) (length xs) (miss (ltb (position_or_len p xs) (length xs)) (position_or_len p xs) e) in
      let within = lowest-le 0 p xs in
      let is = lowest-is xs in
      omega arith

-- What is left from a place on, as a slice has it.
pub rest-is : (buffer : List ℕ) (from : ℕ) → take (length buffer - from) (drop from buffer) ≡ drop from buffer
rest-is buffer from = take_all (length buffer - from) (drop from buffer) (omega (arith, length-drop from buffer))
