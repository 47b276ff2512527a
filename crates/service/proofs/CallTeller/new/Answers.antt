-- The new machine.
use Rattle.std.proofs.Common.{◌∙◌}
use Rattle.service.proofs.New.{new-sound-session, new-is}
use Rattle.service.proofs.CallTeller.new.Goals as goal

pub from_session-requires : goal.from_session-requires
from_session-requires c = new-sound-session _ c.new_session.ensures

pub returns : goal.returns
returns c = c.from_session.ensures ∙ new-is c.new_session.result c.new_session.ensures
