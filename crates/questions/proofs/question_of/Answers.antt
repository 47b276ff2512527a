-- `questions::question_of` meets its contract: each arm is told what the call is. Assumes nothing.
use mathlib.Core.Path.{sym, ap, ◌∙◌}
use Rattle.std.specs.Prelude.{Some}
use Rattle.questions.specs.Asked.{question_of}
use Rattle.questions.proofs.question_of.Goals as goal

pub returns-in-RefpInit : goal.returns-in-RefpInit
returns-in-RefpInit c = ap Some c.refp_call_of.ensures ∙ sym (ap question_of c.in-RefpInit.is)
