-- Of the characters so far, as many as are kept.
use Rattle.std.proofs.Common.{◌≡◌, take, []}
use Rattle.asking.specs.Asked.{texts}
use Rattle.telling.specs.Telling.{kept, speaker, fed}
use Rattle.telling.proofs.LineTeller.from_line.Given as goal

abbrev pub invariant-loop-c : goal.invariant-loop-c
invariant-loop-c g l = l.teller ≡ fed (speaker (take kept (take l.c-index l.fn.line)) l.fn.number) (texts [] [])
