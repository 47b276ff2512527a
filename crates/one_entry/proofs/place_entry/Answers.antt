-- `one_entry::place_entry` meets its contract: what does not fit is turned down, and the rest is the copy's. Assumes nothing.
use mathlib.Core.Path.{◌≡◌, sym, ◌∙◌}
use Rattle.one_entry.proofs.Entering.{fitting, not-placed, placed}
use borrow.Author.Rules.{rules}
use Rattle.one_entry.proofs.place_entry.Goals as goal

pub returns-then-not-is_fit : goal.returns-then-not-is_fit
returns-then-not-is_fit c = not-placed _ _ (sym c.is_fit.ensures ∙ c.if-not-is_fit.true)

pub unwrap-numbers-requires : goal.unwrap-numbers-requires
unwrap-numbers-requires c =
    let long = (fitting c.args.rows.now c.args.present c.args.list_poc.now (sym c.is_fit.ensures ∙ c.if-not-is_fit.false)).1 in
    search rules

pub copy_refp-requires : goal.copy_refp-requires
copy_refp-requires c =
    (fitting c.args.rows.now c.args.present c.args.list_poc.now (sym c.is_fit.ensures ∙ c.if-not-is_fit.false)).0

pub returns : goal.returns
returns c =
    let same : c.unwrap-numbers.result.now ≡ c.args.list_poc.now = search rules in
    placed c.args.rows.now c.args.list_poc.now c.args.cnt c.args.lidx c.args.present c.args.buf c.args.poc c.copy_refp.result (sym c.is_fit.ensures ∙ c.if-not-is_fit.false) (search rules)
    c.head_from-head.ensures same c.copy_refp.ensures
