-- `buffer::line_end` meets its contract. Assumes nothing.
use Rattle.std.proofs.Common.{◌+◌, drop, sym, ap, ◌∙◌, arith}
use lib.ListN.{length-drop}
use Rattle.buffer.specs.Buffer.{is_newline}
use Rattle.buffer.proofs.Newlines.{first-at, none-there, rest-is}
use Rattle.buffer.proofs.line_end.Goals as goal

pub returns-in-Some : goal.returns-in-Some
returns-in-Some c =
    let rest = rest-is c.args.buffer.now c.args.from in
    ap (λ n. c.args.from + n) (sym (first-at is_newline (drop c.args.from c.args.buffer.now) c.in-Some.n (rw rest at (sym c.newline_in.ensures ∙ c.in-Some.is))))

pub returns-in-None : goal.returns-in-None
returns-in-None c =
    let rest = rest-is c.args.buffer.now c.args.from in
    let end = none-there is_newline (drop c.args.from c.args.buffer.now) (rw rest at (sym c.newline_in.ensures ∙ c.in-None.is)) in
    omega (arith, length-drop c.args.from c.args.buffer.now)
