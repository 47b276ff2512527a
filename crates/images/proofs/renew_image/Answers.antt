-- `images::renew_image` meets its contract: the length is tested, and the new machine written.
-- Assumes nothing.
use mathlib.Core.Path.{◌≡◌, subst}
use mathlib.Core.List.{List}
use Prim.Native.Nat.{ℕ}
use lib.ListN.{length}
use borrow.Author.Tests.{eq-eqb, ne_eqb}
use Rattle.image.specs.Image.{image_length}
use Rattle.images.specs.Called.{renewed, Renews}
use Rattle.exchange.specs.Lent.{left, ImageHolds}
use Rattle.machine.specs.Step.{new_machine}
use Rattle.exchange.proofs.Kept.{left-kept}
use Rattle.images.proofs.TurnedDown.{new-kept}
use Rattle.images.proofs.renew_image.Goals as goal

renews : (r : ℕ) (image image' : List ℕ) → left r image' ≡ renewed image → (length image ≡ image_length → ImageHolds image' new_machine) → Renews r image image'
renews r image image' e h = record { given = e; holds = h; kept = left-kept e (new-kept image) }

pub returns-then-image-ne-IMAGE_LENGTH : goal.returns-then-image-ne-IMAGE_LENGTH
unfolding renewed
returns-then-image-ne-IMAGE_LENGTH c = renews _ _ _ (rw (ne_eqb (length c.args.image.now) image_length c.if-image-ne-IMAGE_LENGTH.true)) (λ e. absurd (c.if-image-ne-IMAGE_LENGTH.true e))

pub returns : goal.returns
unfolding renewed
returns c =
    renews _ _ _
    (rw (
      eq-eqb (length c.args.image.now) image_length c.if-image-ne-IMAGE_LENGTH.false,
      c.write_machine.ensures.bytes,
      c.new_machine.ensures,
    ))
    (λ _. subst (ImageHolds c.write_machine.new.image) c.new_machine.ensures c.write_machine.ensures.holds)
