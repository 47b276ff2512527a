-- `one_slot::slot_answer` meets its contract: 14, not marked, or the reason. Assumes nothing.
use mathlib.Core.Path.{sym, ◌∙◌}
use mathlib.Core.List.{[]}
use Rattle.one_slot.proofs.SlotLaws.{held_below, told-not-marked, told-reason}
use Rattle.one_slot.proofs.slot_answer.Goals as goal

pub bounds-keys-at : goal.bounds-keys-at
bounds-keys-at c = held_below [] c.args.keys.now c.args.slot (sym (c.is_held.ensures []) ∙ c.if-not-is_held.false)

pub returns-then-not-is_marked : goal.returns-then-not-is_marked
returns-then-not-is_marked c rows =
    told-not-marked c.args.call rows c.args.keys.now c.args.slot (sym (c.is_held.ensures rows) ∙ c.if-not-is_held.false)
    (sym c.is_marked.ensures ∙ c.if-not-is_marked.true)

pub returns : goal.returns
returns c rows =
    told-reason c.args.call rows c.args.keys.now c.args.slot (sym (c.is_held.ensures rows) ∙ c.if-not-is_held.false)
    (sym c.is_marked.ensures ∙ c.if-not-is_marked.false) (c.requires.in_order rows) (c.reason_of.ensures rows)
