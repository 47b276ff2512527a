-- `choosing::choose` meets its contract: each refusal in its order, and else both lists. Assumes nothing.
use mathlib.Core.Path.{◌≡◌, sym, ◌∙◌}
use lib.ListN.{length}
use Rattle.std.proofs.Common.{rules}
use Rattle.choosing.proofs.Deciding.{too-many, no-references, forward-empty, both-chosen, forward-alone}
use Rattle.choosing.proofs.choose.Goals as goal

pub returns-then-ordered-gt-MAX_NUM_REF_PICS : goal.returns-then-ordered-gt-MAX_NUM_REF_PICS
returns-then-ordered-gt-MAX_NUM_REF_PICS c = too-many c.args.call c.args.ordered.now c.if-ordered-gt-MAX_NUM_REF_PICS.true

pub returns-then-is_empty : goal.returns-then-is_empty
returns-then-is_empty c = let n : length c.args.ordered.now ≡ 0 = search rules in no-references c.args.call c.args.ordered.now n

pub returns-then-is_empty-2 : goal.returns-then-is_empty-2
returns-then-is_empty-2 c =
    let some : length c.args.ordered.now ≡ 0 → ⊥ = search rules in
    let n : length c.list_of.new.list.items ≡ 0 = search rules in
    forward-empty c.args.call c.args.ordered.now c.if-ordered-gt-MAX_NUM_REF_PICS.false some
    c.rule_of-rule.result c.rule_of-rule.ensures c.forward_walk.ensures c.list_of.new.list.items c.list_of.ensures n

pub returns-then-is_b : goal.returns-then-is_b
returns-then-is_b c =
    let some : length c.args.ordered.now ≡ 0 → ⊥ = search rules in
    let n : length c.list_of.new.list.items ≡ 0 → ⊥ = search rules in
    both-chosen c.args.call c.args.ordered.now c.if-ordered-gt-MAX_NUM_REF_PICS.false some
    c.rule_of-rule.result c.rule_of-rule.ensures c.forward_walk.ensures c.list_of.new.list.items c.list_of.ensures n
    c.list_of-then-is_b.new.list.items (sym c.is_b.ensures ∙ c.if-is_b.true) c.list_of-then-is_b.ensures

pub returns-else-is_b : goal.returns-else-is_b
returns-else-is_b c =
    let some : length c.args.ordered.now ≡ 0 → ⊥ = search rules in
    let n : length c.list_of.new.list.items ≡ 0 → ⊥ = search rules in
    forward-alone c.args.call c.args.ordered.now c.if-ordered-gt-MAX_NUM_REF_PICS.false some
    c.rule_of-rule.result c.rule_of-rule.ensures c.forward_walk.ensures c.list_of.new.list.items c.list_of.ensures n
    c.clear.new.self.items (sym c.is_b.ensures ∙ c.if-is_b.false) c.clear.ensures
