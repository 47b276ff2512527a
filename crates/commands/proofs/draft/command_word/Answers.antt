-- `command_word` meets its contract: in the last arm the word is `derive`.
-- Assumes nothing.
use Rattle.std.proofs.Common.{rules, arith, ◌≡◌, codes}
use Rattle.std.proofs.lemmas.Slice.Eq.{text_from_reads}
use Rattle.commands.proofs.draft.command_word.Goals as goal

pub returns-in-derive : goal.returns-in-derive
returns-in-derive c =
    let e : c.args.word.now ≡ codes "derive" = text_from_reads c.args.word.now (codes "derive") (omega arith) (search rules) in
    rw e
