-- `number_of` meets its contract: what `parse` gives is the number of the word.
-- Assumes nothing.
use Rattle.std.proofs.Common.{rules, refl}
use Rattle.commands.proofs.Parsed.{unsigned-parsed}
use Rattle.commands.proofs.numbers.number_of.Goals as goal

pub returns : goal.returns
returns c =
    let text = c.in_ok-text_of in
    let word = c.args.word.now in
    let number = unsigned-parsed 32 4294967295 _ word _ refl text.ensures.0 text.ensures.1 c.parse.ensures.value.0 in
    search (rules, number)
