-- `summing::sum8` meets its contract: each byte adds to the sum of those before it. Assumes nothing.
use Rattle.std.proofs.Common.{◌≡◌, subst, rules, refl}
use Rattle.std.proofs.lemmas.Fn.{fold_over, slice_gives, fronts}
use Rattle.hex_digits.specs.Hex.{sum8}
use Rattle.summing.proofs.Adding.{sum-then}
use Rattle.summing.proofs.sum8.Goals as goal

pub returns : goal.returns
unfolding sum8
returns c = subst (λ l. c.fold.result ≡ sum8 l) c.iter.ensures.rest
    (fold_over fronts (λ y. y.now) _ (λ ys n. n ≡ sum8 ys) _ (λ ys a x b f' j k. let next = sum-then ys a x.now b j in search rules)
    _ _ _ _ (slice_gives c.iter.result) refl c.fold.ensures.ran)
