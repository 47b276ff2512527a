-- `before_comment` meets its contract.
-- Assumes nothing.
use Rattle.std.proofs.Common.{sym, ◌∙◌}
use Rattle.commands.proofs.Split.{ends-before, no-comment}
use Rattle.commands.proofs.before_comment.Goals as goal

pub returns-in-Some : goal.returns-in-Some
returns-in-Some c = ends-before c.args.line.now c.in-Some.end (sym c.comment_place.ensures ∙ c.in-Some.is)

pub returns-in-None : goal.returns-in-None
returns-in-None c = no-comment c.args.line.now (sym c.comment_place.ensures ∙ c.in-None.is)
