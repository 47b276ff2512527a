-- The readings, computed. Assumes nothing.
use mathlib.Core.Path.{refl}
use Rattle.seq.specs.Lists.{all_of, any_of, count_if, select, all_differ}
use Rattle.whole.specs.Whole.{whole}
use Rattle.ordering.specs.Order.{keys_from, insert_key, ordered, down}
use Rattle.passes.specs.Passes.{pass_on, pass}
use Rattle.choosing.specs.Choice.{choice}
use Rattle.reasons.specs.Reasons.{in_front, at_turn, judged_at, reason_for, why_whole, why}
use Rattle.reasons.specs.Readings.{readings, ReadingsHold}

pub readings-hold : ReadingsHold
unfolding readings why why_whole reason_for judged_at at_turn in_front whole all_of any_of count_if select all_differ choice down keys_from ordered insert_key pass pass_on
readings-hold = refl
