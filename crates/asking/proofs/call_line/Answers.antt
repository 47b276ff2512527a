-- `asking::call_line` meets its contract: a call that fits is written, and its line stands at the front.
-- Assumes nothing.
use Rattle.std.proofs.Common.{rules}
use Rattle.asking.proofs.LineWritten.{line-given, line-not-refused}
use Rattle.asking.proofs.call_line.Goals as goal

pub returns-in-Ok : goal.returns-in-Ok
returns-in-Ok c =
    let wrote = c.write_call-written in
    rw (c.truncate.ensures.items, c.from_array_in-line.ensures.items)
    (line-given c.args.call _ c.requires (search rules) wrote.result _ wrote.ensures _ c.in-Ok.is)

pub returns-in_default : goal.returns-in_default
returns-in_default c =
    let wrote = c.write_call-written in
    absurd (line-not-refused c.args.call _ c.requires (search rules) wrote.result _ wrote.ensures _ c.in_default.is)
