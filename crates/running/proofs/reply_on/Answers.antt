-- `running::reply_on` meets its contract: the sizes are tested, and the line taken by what it is. Assumes nothing.
use mathlib.Core.Path.{sym, ◌∙◌}
use Rattle.running.specs.Slices.{slices}
use Rattle.sizing.proofs.Sized.{sized-long}
use Rattle.running.proofs.Answering.{wrong_size, bad-line, good-line, by-line}
use borrow.Author.Rules.{rules}
use Rattle.running.proofs.reply_on.Goals as goal

pub returns-then-not-is_sized : goal.returns-then-not-is_sized
returns-then-not-is_sized c =
    rw c.bad_line_reply.ensures (wrong_size _ _ (sym c.is_sized.ensures ∙ c.if-not-is_sized.true))

pub call_on-requires : goal.call_on-requires
call_on-requires c =
    sized-long (slices c.args.keys.now c.args.rows.now c.args.registers.now) (sym c.is_sized.ensures ∙ c.if-not-is_sized.false)

pub returns-in-Some : goal.returns-in-Some
returns-in-Some c =
    by-line c.in-Some.is (good-line (slices c.args.keys.now c.args.rows.now c.args.registers.now) _ (sym c.is_sized.ensures ∙ c.if-not-is_sized.false) c.call_on.ensures (search rules) (search rules) (search rules))

pub returns-in-None : goal.returns-in-None
returns-in-None c =
    by-line c.in-None.is (rw c.bad_line_reply-in-None.ensures (bad-line _ (sym c.is_sized.ensures ∙ c.if-not-is_sized.false)))
