-- `read_command` meets its contract. The loop's invariant: stepping over the words that are left comes to stepping over all.
-- Assumes nothing.
use Rattle.std.proofs.Common.{rules, ◌≡◌, ◌<◌, length, refl, ap, ◌∙◌, arith, Ok, Err}
use borrow.Author.Tests.{tests}
use Rattle.std.specs.List.{before_first}
use Rattle.std.proofs.lemmas.Bool.Decides.{nat_tests}
use Rattle.std.proofs.lemmas.Iterator.Consumers.{YieldsList-turn, YieldsList-end}
use Rattle.std.proofs.lemmas.Iterator.Splits.{YieldsList-from_slice_split}
use Rattle.std.proofs.lemmas.List.{length_push}
use Rattle.commands.specs.Commands.{step_over}
use Rattle.commands.specs.Drafts.{step}
use Rattle.commands.specs.declared.draft.Draft.{Draft}
use Rattle.commands.specs.Words.{is_space, is_hash}
use Rattle.commands.proofs.Split.{words-split, all-read, piece-skipped, piece-taken, piece-refused}
use Rattle.commands.proofs.read_command.Goals as goal

pub loop-word-init : goal.loop-word-init
loop-word-init c = ap (step_over Draft.Command) (words-split c.args.line.now)

pub loop-word-preserved-then-not-is_empty : goal.loop-word-preserved-then-not-is_empty
loop-word-preserved-then-not-is_empty c =
    let l = c.loop-word in
    let line = c.args.line.now in
    let t =
    YieldsList-turn
    (YieldsList-from_slice_split _ is_space (before_first is_hash line) (cc) (cc) refl (λ x b q k. (search rules, search (rules, tests))))
    l.yielded _ l.yielded_by _ _ c.in-Some.word c.in-Some.is c.next.ensures.steps in
    let word = c.in-Some.word.now in
    let full : 0 < length word = grind (arith, nat_tests) in
    let steps : step l.draft word ≡ Ok c.in_ok-draft.draft = search (rules, c.in_ok-draft.was) in
    rw (length_push l.yielded c.in-Some.word) (piece-taken line l.draft (length l.yielded) l.invariant word t c.in_ok-draft.draft full steps)

pub loop-word-preserved : goal.loop-word-preserved
loop-word-preserved c =
    let l = c.loop-word in
    let line = c.args.line.now in
    let t =
    YieldsList-turn
    (YieldsList-from_slice_split _ is_space (before_first is_hash line) (cc) (cc) refl (λ x b q k. (search rules, search (rules, tests))))
    l.yielded _ l.yielded_by _ _ c.in-Some.word c.in-Some.is c.next.ensures.steps in
    let word = c.in-Some.word.now in
    let empty : length word ≡ 0 = grind (arith, nat_tests) in
    rw (length_push l.yielded c.in-Some.word) (piece-skipped line l.draft (length l.yielded) l.invariant word t empty)

pub returns-in_err-draft-clause-is : goal.returns-in_err-draft-clause-is
returns-in_err-draft-clause-is c =
    let l = c.loop-word in
    let line = c.args.line.now in
    let t =
    YieldsList-turn
    (YieldsList-from_slice_split _ is_space (before_first is_hash line) (cc) (cc) refl (λ x b q k. (search rules, search (rules, tests))))
    l.yielded _ l.yielded_by _ _ c.in-Some.word c.in-Some.is c.next.ensures.steps in
    let word = c.in-Some.word.now in
    let full : 0 < length word = grind (arith, nat_tests) in
    let e = c.in_err-draft.field-0.0 in
    let is : c.from_residual.result ≡ Err e = search rules in
    let stops : step l.draft word ≡ Err e = search (rules, c.in_err-draft.was) in
    is ∙ piece-refused line l.draft (length l.yielded) l.invariant word t e full stops

pub returns-clause-is : goal.returns-clause-is
returns-clause-is c =
    let l = c.loop-word in
    let line = c.args.line.now in
    let t =
    YieldsList-end
    (YieldsList-from_slice_split _ is_space (before_first is_hash line) (cc) (cc) refl (λ x b q k. (search rules, search (rules, tests))))
    l.yielded _ l.yielded_by _ _ c.in-None.is c.next.ensures.steps in
    c.finish.ensures.is ∙ all-read line l.draft (length l.yielded) l.invariant (omega (arith, t.1))
