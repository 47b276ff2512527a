use Rattle.std.proofs.Common.{◌∙◌}
use Rattle.explaining.proofs.Explained.{why-turned-away, why-comes-to}
use Rattle.explaining.proofs.evc_picman_why.Goals as goal

pub returns-in_default : goal.returns-in_default
returns-in_default c = why-turned-away c.open_state.ensures c.args.call c.args.slot c.in_default.not-Ok

pub returns : goal.returns
returns c = c.why_on.ensures c.open_state.new.rows ∙ why-comes-to c.open_state.ensures c.args.call c.args.slot c.in-Ok.is
