-- As many characters are added as there is room for.
use Rattle.std.proofs.Common.{◌∙◌, ap, take, ◌+◌, ◌++◌, arith}
use Rattle.run.specs.Partial.{Kept, kept_length}
use Rattle.run.proofs.PartialLaws.{kept-append}
use Rattle.run.proofs.partial.extend.Goals as goal

pub returns : goal.returns
returns c =
    let at = c.partial.inside.len in
    let fits = c.partial.invariant in
    ap (take (at + c.min-n.result)) c.paste.ensures
    ∙ kept-append c.partial.inside.bytes c.args.part.now at c.min-n.result (omega (arith, fits.0)) fits.1 c.min-n.ensures
    ∙ ap (λ (v : Kept). take kept_length (v.items ++ c.args.part.now)) c.partial.view_is
