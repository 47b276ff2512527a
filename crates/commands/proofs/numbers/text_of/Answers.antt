-- `text_of` meets its contract: digits are text, and no plus.
-- Assumes nothing.
use Rattle.std.proofs.Common.{sym, ◌∙◌}
use Rattle.commands.proofs.Parsed.{no-plus, text-of}
use Rattle.commands.proofs.numbers.text_of.Goals as goal

pub returns : goal.returns
returns c =
    let word = c.args.word.now in
    let plus = no-plus word (sym c.starts_with.ensures.value ∙ c.if-starts_with.false) in
    rw c.ok.ensures.value (text-of _ word c.from_utf8.result plus c.from_utf8.ensures.cases)
