-- `run::run_piece` meets its contract. The loop's invariant is `Going`: the answers so far stand at the front of the output, and the run goes
-- on from the machine, the line and the place that it has come to. The measure is what is left of the piece.
use Rattle.std.proofs.Common.{◌≡◌, ◌-◌, length, ℕ, List, ◌++◌, take, drop, refl, sym, ap, ◌∙◌, arith}
use Rattle.std.specs.Prelude.{Option}
use lib.ListN.{length-drop}
use lib.Seq.{take_all}
use Rattle.line.specs.declared.{Call.Call, Reply.Reply}
use Rattle.machine.specs.declared.Scalars.{Scalars}
use Rattle.machine.specs.Step.{stepped, step_line}
use Rattle.machine.specs.Running.{machine_in, Makes}
use Rattle.machine.proofs.Running.{runs_on}
use Rattle.run.specs.Run.{Fed}
use Rattle.run.specs.Partial.{kept_length}
use Rattle.run.proofs.NextLines.{next-is, next-none}
use Rattle.run.proofs.Turns.{turned, stopped-there, all-written, written-length}
use Rattle.run.proofs.run_piece.Goals as goal

-- what a call did, as a step of the machine
made-step : {r : Reply} {after s : Scalars} {keys rows keys' rows' : List ℕ} (l : Option Call) → Makes r after s keys rows keys' rows' (step_line (machine_in keys rows s) l)
    → step_line (machine_in keys rows s) l ≡ stepped r (machine_in keys' rows' after)
made-step {s = s} {keys} {rows} l c = rw (c.replies, c.machine_is) refl

pub loop-line-preserved : goal.loop-line-preserved
loop-line-preserved c =
    let n = next-is _ _ _ (sym c.next_line.ensures ∙ c.in-Some.is) in
    let m = c.answer_line-reply.ensures in (
      turned c.loop-line.invariant.0 n.inside c.in-Some.line n.says c.answer_line-reply.result _ (made-step c.in-Some.line m) _ c.clear.ensures _ n.behind
          _ c.write_reply-len.ensures.next _ c.write_reply-len.ensures.line,
      runs_on c.in-Some.line c.loop-line.invariant.1 m,
    )

pub returns : goal.returns
returns c =
    let g = c.loop-line.invariant.0 in
    let none = next-none _ _ _ (sym c.next_line.ensures ∙ c.in_default.is) in
    let piece = c.args.piece.now in
    record {
      written = all-written g none;
      length_is = written-length g none;
      machine = rw (stopped-there g none) refl;
      line =
          c.extend.ensures
          ∙ ap (λ (x : List ℕ). take kept_length (c.loop-line.session.partial.items ++ x))
          (take_all (length piece - c.loop-line.at) (drop c.loop-line.at piece) (omega (arith, length-drop c.loop-line.at piece)))
          ∙ sym (ap (λ (x : Fed). take kept_length x.runner.line) (stopped-there g none));
      stays_sound = record { runs = c.loop-line.invariant.1 };
    }
