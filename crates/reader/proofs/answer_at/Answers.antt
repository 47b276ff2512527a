-- `reader::answer_at` meets its contract. Assumes nothing.
use Prim.Native.Nat.{ℕ, ◌-◌}
use native.Mathlib.Omega.{arith}
use mathlib.Core.Path.{◌≡◌, sym, ap, ◌∙◌}
use lib.ListN.{take, drop, length-drop}
use borrow.Author.Tests.{lt-ltb, le-ltb}
use Rattle.seq.specs.Lists.{lowest}
use Rattle.seq.proofs.Walks.{lowest-le}
use Rattle.hex_digits.specs.Frame.{from_line}
use Rattle.buffer.specs.Buffer.{is_newline}
use Rattle.line.specs.Answers.{answer_kind}
use Rattle.std.specs.Prelude.{Option, Some, ok_or}
use Rattle.line.specs.declared.Reply.{Reply}
use Rattle.reader.specs.Reading.{bad_line, answer_at}
use Rattle.reader.proofs.answer_at.Goals as goal

pub returns-then-lines-at : goal.returns-then-lines-at
unfolding answer_at
returns-then-lines-at c = rw (le-ltb _ _ c.if-lines-at.true)

pub slice_bounds-read_answer-end : goal.slice_bounds-read_answer-end
slice_bounds-read_answer-end c =
    let a = c.args in
    let low = lowest-le 0 is_newline (drop a.at a.lines.now) in
    omega (arith, c.line_end-end.ensures, length-drop a.at a.lines.now)

pub returns : goal.returns
unfolding answer_at
returns c =
    let found = c in
    let s = found in
    let at = s.args.at in
    let rest = drop at s.args.lines.now in
    let size : found.line_end-end.result - at ≡ lowest is_newline rest = omega (arith, found.line_end-end.ensures) in
    let line = c.read_answer.ensures ∙ ap (λ (n : ℕ). from_line answer_kind (take n rest)) size in
    ap Some (c.ok_or.ensures.value ∙ ap (λ (o : Option Reply). ok_or o (bad_line at)) line)
    ∙ sym (rw (lt-ltb _ _ found.if-lines-at.false))
