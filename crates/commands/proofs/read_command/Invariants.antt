use Rattle.std.proofs.Common.{◌≡◌, [], length, drop}
use Rattle.commands.specs.Words.{words_from}
use Rattle.commands.specs.Commands.{step_over}
use Rattle.commands.specs.declared.draft.Draft.{Draft}
use Rattle.commands.proofs.Split.{kept, pieces_of}
use Rattle.commands.proofs.read_command.Given as goal

abbrev pub invariant-loop-word : goal.invariant-loop-word
invariant-loop-word l =
    step_over l.draft (kept (drop (length l.yielded) (pieces_of l.line))) ≡ step_over Draft.Command (words_from [] l.line)
