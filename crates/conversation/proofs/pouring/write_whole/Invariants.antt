-- What has been written so far.
use Rattle.std.proofs.Common.{◌≤◌, length, take}
use Rattle.std.specs.Io.KnownBytes.{Appends}
use Rattle.conversation.proofs.pouring.write_whole.Given as goal

abbrev pub invariant-loop : goal.invariant-loop
invariant-loop g l = record {
  within : l.at ≤ length l.bytes;
  appended : Appends (g.W.Write.contents l.fn.output) (g.W.Write.contents l.output) (take l.at l.bytes);
}
