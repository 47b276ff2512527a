-- `copying::check_copy_refp` meets its contract: the entry by its parts is the entry. Assumes nothing.
use Rattle.entries.proofs.EntryLaws.{entry-parts}
use Rattle.copying.proofs.Copied.{copy-comes-to}
use borrow.Author.Rules.{rules}
use Rattle.copying.proofs.check_copy_refp.Goals as goal

pub returns : goal.returns
returns c =
    let e = c.args.refp_src in
    rw c.put_lists.ensures
    (copy-comes-to _ _ e c.take_lists.ensures.lists_are
    (rw (c.head_of.ensures, entry-parts e (search rules)) at c.copy_refp-given.ensures))
