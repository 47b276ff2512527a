-- `parting::take_machine` meets its contract: by what its parts ensure. Assumes nothing.
use mathlib.Core.Path.{refl, ◌∙◌}
use Rattle.parting.proofs.take_machine.Goals as goal

pub returns : goal.returns
returns c =
    let t = c.take_apart.ensures in
    record {
      same_whole = t.same_whole;
      same_state = t.same_state;
      same_lists = t.lists_stay ∙ c.take_lists.ensures.lists_are;
      same_record = refl;
      sized = t.sized;
    }
