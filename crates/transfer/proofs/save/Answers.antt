-- `transfer::save` meets its contract: each way out knows which test failed, the last that both were passed. Assumes nothing.
use mathlib.Core.Path.{sym, ◌∙◌}
use Rattle.transfer.proofs.Exchanging.{save-other-sizes, save-no-room}
use Rattle.transfer.proofs.save.Goals as goal

pub returns-then-not-is_sized : goal.returns-then-not-is_sized
returns-then-not-is_sized c = save-other-sizes _ _ _ _ (sym c.is_sized.ensures ∙ c.if-not-is_sized.true)

pub returns-then-image-ne-IMAGE_LENGTH : goal.returns-then-image-ne-IMAGE_LENGTH
returns-then-image-ne-IMAGE_LENGTH c =
    save-no-room _ _ _ _ (sym c.is_sized.ensures ∙ c.if-not-is_sized.false) c.if-image-ne-IMAGE_LENGTH.true

pub save_machine-requires : goal.save_machine-requires
save_machine-requires c =
    (sym c.is_sized.ensures ∙ c.if-not-is_sized.false, c.if-image-ne-IMAGE_LENGTH.false)
