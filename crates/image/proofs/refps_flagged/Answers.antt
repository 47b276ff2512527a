use Rattle.std.proofs.Common.{◌+◌, ◌*◌, ◌∙◌, refl, rules}
use Rattle.std.proofs.lemmas.Iterator.{YieldsList-from_range}
use Rattle.std.proofs.lemmas.Iterator.Search.{all_from_yields_List}
use Rattle.image.specs.Image.{is_flag, refp_place, refp_width}
use Rattle.image.proofs.Tested.{each-place}
use Rattle.image.proofs.refps_flagged.Goals as goal

pub returns : goal.returns
returns c =
    let image = c.args.image.now in
    all_from_yields_List (λ k. is_flag image (refp_place + refp_width * k)) c.all.new.self _ c.all.result c.all.ensures.ran
    (YieldsList-from_range 0 42 42 refl refl) (λ i b q called. search (rules, called))
    ∙ each-place (is_flag image) (λ k. refp_place + refp_width * k) 42
