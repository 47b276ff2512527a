-- What is kept of the line says what the line says.
use Rattle.std.proofs.Common.{◌∙◌, ap}
use Rattle.line.specs.Calls.{read_line}
use Rattle.run.proofs.PartialLaws.{kept-reads}
use Rattle.run.proofs.partial.read_with.Goals as goal

pub returns : goal.returns
returns c = c.read_line-2.ensures ∙ ap read_line c.as_slice.ensures.value ∙ ap read_line c.extend.ensures ∙ kept-reads _
