-- `reaching::in_front` meets its contract: cut at the place of the slot's key. Assumes nothing.
use Prim.Native.Nat.{ℕ, suc, ◌-◌, ◌%◌, ◌<◌}
use native.Mathlib.Omega.{arith}
use mathlib.Core.Path.{◌≡◌}
use native.Mathlib.Numerals.{add-one}
use lib.ListN.{length, get_or, length-drop}
use Rattle.std.proofs.Common.{rules}
use Rattle.reaching.proofs.Front.{all-down, all-up, cut-down, cut-up}
use Rattle.reaching.proofs.in_front.Goals as goal

pub returns-in-Some : goal.returns-in-Some
returns-in-Some c =
    let ns = c.args.ordered.now in
    let l : c.in-Some.at < length ns = search rules in
    let h : get_or ns c.in-Some.at 0 % 256 ≡ c.args.slot = search rules in
    let b : (k : ℕ) → k < c.in-Some.at → get_or ns k 0 % 256 ≡ c.args.slot → ⊥ = λ k p q. search rules in
    rw c.in-Down.is (cut-down c.args.slot ns c.in-Some.at l h b)

pub returns-in-None : goal.returns-in-None
returns-in-None c =
    let ns = c.args.ordered.now in
    let b : (k : ℕ) → k < length ns → get_or ns k 0 % 256 ≡ c.args.slot → ⊥ = λ k p q. search rules in
    rw c.in-Down.is (all-down c.args.slot ns b)

pub returns-in-Some-rposition : goal.returns-in-Some-rposition
returns-in-Some-rposition c =
    let ns = c.args.ordered.now in
    let l : c.in-Some-rposition.at < length ns = search rules in
    let h : get_or ns c.in-Some-rposition.at 0 % 256 ≡ c.args.slot = search rules in
    let b : (k : ℕ) → c.in-Some-rposition.at < k → k < length ns → get_or ns k 0 % 256 ≡ c.args.slot → ⊥ = λ k p m q. search rules in
    rw (c.in-Up.is, add-one) (cut-up c.args.slot ns c.in-Some-rposition.at l h b (length ns - suc c.in-Some-rposition.at)
    (let d = length-drop (suc c.in-Some-rposition.at) ns in omega arith))

pub returns-in-None-rposition : goal.returns-in-None-rposition
returns-in-None-rposition c =
    let ns = c.args.ordered.now in
    let b : (k : ℕ) → k < length ns → get_or ns k 0 % 256 ≡ c.args.slot → ⊥ = λ k p q. search rules in
    rw c.in-Up.is (all-up c.args.slot ns b)
