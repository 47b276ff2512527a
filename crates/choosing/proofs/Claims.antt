-- The examples of the choice, computed. Assumes nothing.
use mathlib.Core.Path.{refl}
use Rattle.passes.specs.Passes.{pass_on, pass}
use Rattle.choosing.specs.Choice.{choice}
use Rattle.choosing.specs.Claims.{EmptyIsEleven}

pub empty-is-eleven : EmptyIsEleven
unfolding pass_on pass choice
empty-is-eleven = refl
