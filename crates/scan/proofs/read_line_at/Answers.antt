-- `scan::read_line_at` meets its contract: each way out that finds none knows why no call line can stand there.
-- Assumes nothing.
use Rattle.std.proofs.Common.{◌≡◌, ℕ, ◌-◌, List, length, take, drop, rules, sym, ◌∙◌, arith}
use Rattle.std.specs.Prelude.{None}
use Rattle.line.specs.Calls.{read_line}
use Rattle.line.specs.Lines.{call_at}
use Rattle.buffer.proofs.Newlines.{rest-is}
use Rattle.scan.proofs.Standing.{there, none-there, not-both, same-some}
use Rattle.scan.proofs.read_line_at.Goals as goal
use Rattle.scan.proofs.read_line_at.Goals.{then-rest-end-via-then-rest-end, then-rest-end-via-else-rest-end+then-rest-end-ne-NEWLINE}

abbrev rest : List ℕ → ℕ → List ℕ
rest buffer at = take (length buffer - at) (drop at buffer)

pub returns-in_default : goal.returns-in_default
returns-in_default c =
    let b = c.args.buffer.now in
    let at = c.args.at in
    sym (none-there b at (rest b at) (sym (rest-is b at)) (λ m call g e. let i = g.inside in let l = g.long in omega arith))

pub returns-in_default-2 : goal.returns-in_default-2
returns-in_default-2 c =
    let b = c.args.buffer.now in
    let at = c.args.at in
    sym (none-there b at (rest b at) (sym (rest-is b at)) (λ m call g e. let z = g.zero in omega arith))

pub returns-in_err-end : goal.returns-in_err-end
returns-in_err-end c =
    let b = c.args.buffer.now in
    let at = c.args.at in
    let none : call_at b at ≡ None =
    none-there b at (rest b at) (sym (rest-is b at)) (λ m call g e. not-both (sym c.line_length.ensures ∙ c.in_err-end.was) g.sized) in
    rw none (search rules)

pub returns-then-rest-end : goal.returns-then-rest-end
returns-then-rest-end c =
    let b = c.args.buffer.now in
    let at = c.args.at in
    sym (none-there b at (rest b at) (sym (rest-is b at)) (λ m call g e.
    let end = same-some (sym c.line_length.ensures ∙ c.in_ok-end.was) g.sized in
    let i = g.inside in
    let n = g.ends in
    elim c.then-rest-end.branch [ then-rest-end-via-then-rest-end w ↦ omega arith | then-rest-end-via-else-rest-end+then-rest-end-ne-NEWLINE w ↦ w.if-rest-end-ne-NEWLINE.true (rw (← end) at n) ]))

pub returns-in_err-call : goal.returns-in_err-call
returns-in_err-call c =
    let b = c.args.buffer.now in
    let at = c.args.at in
    let none : call_at b at ≡ None =
    none-there b at (rest b at) (sym (rest-is b at)) (λ m call g e.
    let end = same-some (sym c.line_length.ensures ∙ c.in_ok-end.was) g.sized in
    not-both (sym c.read_line.ensures ∙ c.in_err-call.was) (rw (← end) at e)) in
    rw none (search rules)

pub returns : goal.returns
returns c =
    let b = c.args.buffer.now in
    let at = c.args.at in
    sym (there b at (rest b at) (sym (rest-is b at)) c.in_ok-end.end c.in_ok-call.call (omega arith) (omega arith) (sym c.read_line.ensures ∙ c.in_ok-call.was))
