-- `reaching::reason_of` meets its contract: the row by what is asked, on the walk to the picture's turn. Assumes nothing.
use Prim.Native.Nat.{ℕ}
use mathlib.Core.Path.{◌≡◌, sym, ap, ◌∙◌, subst}
use mathlib.Core.Bool.{true}
use Rattle.keys.specs.Keys.{slot_at}
use Rattle.ordering.specs.Order.{Key, key_of}
use Rattle.ordering.specs.InNumbers.{key_in, keys_in}
use Rattle.passes.specs.Passes.{walked}
use Rattle.passes.specs.InNumbers.{ask_in}
use Rattle.reasons.specs.Reasons.{in_front, judged}
use Rattle.reaching.proofs.Judging.{turn-room, on-call}
use Rattle.reaching.proofs.reason_of.Goals as goal

pub pass-bound-requires : goal.pass-bound-requires
pass-bound-requires c =
    turn-room c.rule_of-rule.result c.turn_of-way.result c.args.ordered.now c.begun.new.list.items c.in_front-front.result.now c.requires.few
    c.begun.ensures c.args.slot c.in_front-front.ensures

pub returns : goal.returns
returns c rows =
    let rule = c.rule_of-rule.result in
    let way = c.turn_of-way.result in
    let both = c.is_b-both.result in
    let key = c.order_key-wanted.result in
    let key-is = c.order_key-wanted.ensures rows in
    let slot-is : c.args.slot ≡ (key_in c.order_key-wanted.result).slot = sym (ap (λ (k : Key). k.slot) (c.order_key-wanted.ensures rows)) in
    c.judge.ensures
    ∙ ap (λ (n : ℕ). judged (ask_in rule) both true way n c.pass-bound.result (key_in key)) c.len.ensures.value
    ∙ on-call rule way c.args.ordered.now c.begun.new.list.items c.in_front-front.result.now both key c.turn_of-way.ensures c.begun.ensures
    (subst (λ (n : ℕ). walked way (keys_in c.in_front-front.result.now) ≡ in_front n (walked way (keys_in c.args.ordered.now))) slot-is c.in_front-front.ensures)
    c.pass-bound.new.list.items c.pass-bound.result c.pass-bound.ensures c.args.call (key_of c.args.slot (slot_at rows c.args.key))
    c.rule_of-rule.ensures c.is_b-both.ensures key-is
