-- What an out on a lent state is answered with.
-- Assumes nothing.
use Rattle.std.specs.Prelude.{Option, Some, None, Result, Ok, Err}
use Rattle.def.specs.declared.{Answer.Answer, Refusal.Refusal}
use Rattle.picman.specs.declared.{Shown.Shown}
use Rattle.entry.specs.declared.out.{NoOutput.NoOutput}

abbrev pub output_answer : Result (Option Shown) NoOutput → Result Answer Refusal
output_answer (Ok (Some s)) = Ok (Answer.Picture s.buffer s.poc)
output_answer (Ok None) = Ok Answer.NotYet
output_answer (Err NoOutput.NoMore) = Ok Answer.NoMore
output_answer (Err (NoOutput.Refused why)) = Err why
