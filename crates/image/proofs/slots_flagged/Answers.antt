use Rattle.std.proofs.Common.{◌+◌, ◌*◌, ◌∙◌, refl, rules}
use Rattle.std.proofs.lemmas.Iterator.{YieldsList-from_range}
use Rattle.std.proofs.lemmas.Iterator.Search.{all_from_yields_List}
use Rattle.image.specs.Image.{slot_flags, slot_width}
use Rattle.image.proofs.Tested.{each-place}
use Rattle.image.proofs.slots_flagged.Goals as goal

pub returns : goal.returns
returns c =
    let image = c.args.image.now in
    all_from_yields_List (λ k. slot_flags image (0 + slot_width * k)) c.all.new.self _ c.all.result c.all.ensures.ran
    (YieldsList-from_range 0 28 28 refl refl) (λ i b q called. search (rules, called))
    ∙ each-place (slot_flags image) (λ k. 0 + slot_width * k) 28
