-- `renewing::renew` meets its contract. Assumes nothing.
use mathlib.Core.Path.{sym, ◌∙◌}
use Rattle.renewing.proofs.Clearing.{not-renewed, renewed}
use Rattle.renewing.proofs.renew.Goals as goal

pub returns-then-not-is_sized : goal.returns-then-not-is_sized
returns-then-not-is_sized c = not-renewed _ (sym c.is_sized.ensures ∙ c.if-not-is_sized.true)

pub returns : goal.returns
returns c =
    renewed (sym c.is_sized.ensures ∙ c.if-not-is_sized.false)
    (c.fill.ensures.after (λ y e. e)) (c.fill-2.ensures.after (λ y e. e)) (c.fill-3.ensures.after (λ y e. e))
