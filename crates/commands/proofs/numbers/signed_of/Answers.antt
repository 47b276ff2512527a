-- `signed_of` meets its contract: what `parse` gives is the number of the word, in two's complement.
-- Assumes nothing.
use Rattle.std.proofs.Common.{rules, ◌≡◌, sym, ap, ◌∙◌, Some, w32, to_z, of_z}
use Rattle.std.specs.Option.{option_map}
use Rattle.commands.proofs.Parsed.{signed-parsed}
use Rattle.commands.proofs.numbers.signed_of.Goals as goal

pub returns-in_err-n : goal.returns-in_err-n
returns-in_err-n c =
    let text = c.in_ok-text_of in
    let p = signed-parsed _ c.args.word.now _ text.ensures.0 text.ensures.1 c.parse.ensures.value.0 in
    c.from_residual-in_err-n.ensures ∙ ap (option_map (of_z w32)) (sym c.in_err-n.was ∙ c.ok.ensures.value) ∙ p

pub returns : goal.returns
returns c =
    let text = c.in_ok-text_of in
    let p = signed-parsed _ c.args.word.now _ text.ensures.0 text.ensures.1 c.parse.ensures.value.0 in
    let n = c.in_ok-n.n in
    let e : to_z w32 (of_z w32 n) ≡ n = search rules in
    ap Some (c.cast_unsigned.ensures ∙ ap (of_z w32) e) ∙ ap (option_map (of_z w32)) (sym c.in_ok-n.was ∙ c.ok.ensures.value) ∙ p
