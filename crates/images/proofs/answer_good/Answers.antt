-- `images::answer_good` meets its contract: the callees' contracts, last call first.
-- Assumes nothing.
use mathlib.Core.Path.{ap, subst, ◌∙◌}
use Rattle.machine.specs.declared.Machine.{Machine}
use Rattle.machine.specs.declared.Stepped.{Stepped}
use Rattle.machine.specs.Step.{step}
use Rattle.exchange.specs.Lent.{ImageHolds}
use Rattle.images.proofs.answer_good.Goals as goal

pub returns : goal.returns
returns c =
    let e = c.step-next.ensures ∙ ap (λ (m : Machine). step m c.args.call) c.read_machine-before.ensures in
    record {
      given = rw (c.write_answer.ensures, c.write_machine.ensures.bytes, e);
      holds = subst (λ (s : Stepped). ImageHolds c.write_machine.new.image s.machine) e c.write_machine.ensures.holds;
    }
