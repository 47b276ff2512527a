-- `transfer::load` meets its contract: each way out knows which test failed, the last that both were passed. Assumes nothing.
use mathlib.Core.Path.{sym, ◌∙◌}
use Rattle.transfer.proofs.Exchanging.{load-other-sizes, load-no-image}
use Rattle.transfer.proofs.load.Goals as goal

pub returns-then-not-is_sized : goal.returns-then-not-is_sized
returns-then-not-is_sized c = load-other-sizes _ _ _ _ (sym c.is_sized.ensures ∙ c.if-not-is_sized.true)

pub returns-then-not-is_image : goal.returns-then-not-is_image
returns-then-not-is_image c =
    load-no-image _ _ _ _ (sym c.is_sized.ensures ∙ c.if-not-is_sized.false) (sym c.is_image.ensures ∙ c.if-not-is_image.true)

pub load_image-requires : goal.load_image-requires
load_image-requires c =
    (sym c.is_sized.ensures ∙ c.if-not-is_sized.false, sym c.is_image.ensures ∙ c.if-not-is_image.false)
