-- `judging::why_on` meets its contract: the refusals in their order, slice I, and the answer for the slot. Assumes nothing.
use mathlib.Core.Path.{◌≡◌, sym, ap, ◌∙◌}
use Prim.Native.Nat.{ℕ}
use mathlib.Core.List.{List, map}
use native.Mathlib.Omega.{arith}
use lib.ListN.{length}
use Rattle.std.proofs.Common.{Result}
use Rattle.def.specs.declared.{RefpCall.RefpCall, Refusal.Refusal}
use Rattle.keys.specs.Keys.{slot_at}
use Rattle.ordering.specs.Order.{Key}
use Rattle.ordering.specs.InNumbers.{keys_in}
use Rattle.choosing.specs.Choice.{Chosen, choice}
use Rattle.reasons.specs.declared.Reason.{Reason}
use Rattle.reasons.specs.Reasons.{if_chosen}
use Rattle.judging.proofs.Asking.{answers-high, answers-i, answers-choice, chosen-few}
use Rattle.judging.proofs.why_on.Goals as goal

-- what is chosen on the keys that were gathered is what is chosen on the marked pictures

by-choice : (call : RefpCall) (ns items : List ℕ) (ds : List Key) → ns ≡ items → keys_in items ≡ ds → {ch : Chosen} → ch ≡ choice call (keys_in ns)
    → (a : Result Reason Refusal) → if_chosen ch a ≡ if_chosen (choice call ds) a
by-choice call ns items ds n o e a =
    ap (λ (x : Chosen). if_chosen x a) (e ∙ ap (λ (l : List ℕ). choice call (keys_in l)) n ∙ ap (choice call) o)

pub returns-then-call-gt-MAX_POC : goal.returns-then-call-gt-MAX_POC
returns-then-call-gt-MAX_POC c rows = answers-high (map (slot_at rows) c.args.keys.now) c.args.call c.args.slot c.if-call-gt-MAX_POC.true

pub returns-then-is_i : goal.returns-then-is_i
returns-then-is_i c rows =
    answers-i (map (slot_at rows) c.args.keys.now) c.args.call c.args.slot c.if-call-gt-MAX_POC.false (sym c.is_i.ensures ∙ c.if-is_i.true)
    (c.no_list.ensures rows)

pub returns-in-Err : goal.returns-in-Err
returns-in-Err c rows =
    answers-choice (map (slot_at rows) c.args.keys.now) c.args.call c.args.slot c.if-call-gt-MAX_POC.false (sym c.is_i.ensures ∙ c.if-is_i.false)
    (by-choice c.args.call _ _ _ c.deref.ensures.0 (c.picman_update_pic_ref.ensures rows) c.in-Err.ensures _)

pub slot_answer-requires : goal.slot_answer-requires
slot_answer-requires c = record {
  slots_long = c.requires;
  few =
      (let few = chosen-few c.args.call c.deref.result.now c.in_default.ensures in
      let first = ap length c.deref.ensures.0 in
      let second = ap length c.deref-2.ensures.0 in
      omega arith);
  in_order = λ rows. rw c.deref-2.ensures.0 (c.picman_update_pic_ref.ensures rows);
}

pub returns : goal.returns
returns c rows =
    answers-choice (map (slot_at rows) c.args.keys.now) c.args.call c.args.slot c.if-call-gt-MAX_POC.false (sym c.is_i.ensures ∙ c.if-is_i.false)
    (c.slot_answer.ensures rows
    ∙ by-choice c.args.call _ _ _ c.deref.ensures.0 (c.picman_update_pic_ref.ensures rows) c.in_default.ensures _)
