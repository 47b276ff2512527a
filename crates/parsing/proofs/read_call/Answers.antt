-- `parsing::read_call` meets its contract. Assumes nothing.
use Rattle.std.proofs.Common.{sym, ◌∙◌}
use Rattle.hex_digits.specs.Frame.{body_of}
use Rattle.line.proofs.Reading.{checked}
use Rattle.parsing.proofs.read_call.Goals as goal

pub returns : goal.returns
unfolding body_of
returns c = c.call_in.ensures ∙ sym (checked c.args.bytes.now (sym c.is_checked.ensures ∙ c.if-not-is_checked.false))
