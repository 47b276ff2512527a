-- `framing::read_framed` meets its contract: each way out knows which test of the line failed, the last that all but the sum were passed.
-- Assumes nothing.
use Rattle.std.proofs.Common.{sym}
use Rattle.std.proofs.lemmas.Bool.{false≢true}
use Rattle.framing.proofs.Framed.{odd}
use Rattle.framing.proofs.read_framed.Goals as goal

pub returns-then-digits-ne0 : goal.returns-then-digits-ne0
returns-then-digits-ne0 c = record {
  framed = sym (odd _ c.if-digits-ne0.true);
  bytes = λ e. absurd (false≢true e);
}
