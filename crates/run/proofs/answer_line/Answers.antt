-- `run::answer_line` meets its contract. Assumes nothing.
use Rattle.std.specs.Prelude.{Some}
use mathlib.Core.List.{List}
use Prim.Native.Nat.{ℕ}
use Rattle.line.specs.declared.{Call.Call, Reply.Reply}
use Rattle.machine.specs.declared.Scalars.{Scalars}
use Rattle.machine.specs.Step.{step, step_line}
use Rattle.machine.specs.Running.{machine_in, Makes}
use Rattle.run.proofs.NextLines.{by-line, bad-makes}
use Rattle.run.proofs.answer_line.Goals as goal

good-line : {r : Reply} {after s : Scalars} {keys rows keys' rows' : List ℕ} (call : Call) → Makes r after s keys rows keys' rows' (step (machine_in keys rows s) call)
    → Makes r after s keys rows keys' rows' (step_line (machine_in keys rows s) (Some call))
unfolding step_line
good-line call c = c

pub returns-in-Some : goal.returns-in-Some
returns-in-Some c =
    by-line c.in-Some.is (good-line _ c.make_call.ensures)

pub returns-in-None : goal.returns-in-None
returns-in-None c =
    by-line c.in-None.is (bad-makes _ c.requires c.bad_line_reply.ensures)
