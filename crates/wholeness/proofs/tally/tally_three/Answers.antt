-- The key of an empty slot adds nothing.
use mathlib.Core.Path.{◌≡◌, sym, ◌∙◌}
use mathlib.Core.Bool.{true, ◌&&◌}
use Prim.Native.Nat.{ℕ}
use lib.Bits.{or_zero_r}
use lib.Dec.{eqb}
use borrow.Author.Tests.{eqb-true}
use Rattle.seq.proofs.Tests.{and_left, and_right}
use Rattle.wholeness.specs.declared.tally.Tally.{Tally}
use Rattle.wholeness.specs.Tallies.{tallied}
use Rattle.wholeness.proofs.tally.tally_three.Goals as goal

empty : (t : Tally) (k : ℕ) → k ≡ 0 → tallied t k ≡ t
empty t k e =
    rw e
    (rw (or_zero_r t.stray))

three-empty : (t : Tally) (a b c : ℕ) → ((eqb a 0 && eqb b 0) && eqb c 0) ≡ true → t ≡ tallied (tallied (tallied t a) b) c
three-empty t a b c e =
    let ab = and_left (eqb a 0 && eqb b 0) (eqb c 0) e in
    let za = eqb-true a 0 (and_left (eqb a 0) (eqb b 0) ab) in
    let zb = eqb-true b 0 (and_right (eqb a 0) (eqb b 0) ab) in
    let zc = eqb-true c 0 (and_right (eqb a 0 && eqb b 0) (eqb c 0) e) in
    sym (empty (tallied (tallied t a) b) c zc ∙ empty (tallied t a) b zb ∙ empty t a za)

pub returns-then-a-b : goal.returns-then-a-b
returns-then-a-b c = let a = c.args in three-empty a.t a.a a.b a.c c.if-a-b.true
