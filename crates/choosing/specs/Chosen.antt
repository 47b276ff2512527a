-- What was chosen, as the code hands it on.
-- Assumes nothing.
use Rattle.std.specs.Prelude.{Result, Ok, Err}
use Rattle.def.specs.declared.Refusal.{Refusal}
use Rattle.ordering.specs.InNumbers.{keys_in}
use Rattle.choosing.specs.declared.Lists.{Lists}
use Rattle.choosing.specs.Choice.{Chosen, turned_down, chosen}

abbrev pub chosen_in : Result (Unit {0}) Refusal → Lists → Chosen
chosen_in (Ok done) lists = chosen (keys_in lists.forward.items) (keys_in lists.backward.items)
chosen_in (Err why) lists = turned_down why
