-- What a call gives on the running form, as the answer that it is.
-- Assumes nothing.
use Rattle.keys.specs.Keys.{Called}
use Rattle.std.specs.Prelude.{Result, Ok, Err}
use Rattle.def.specs.declared.{Answer.Answer, Refusal.Refusal}
use Rattle.keys.specs.declared.{Rest.Rest}
use Rattle.refp.specs.declared.Counts.{Counts}

abbrev pub lists_answer : Result Counts Refusal → Result Answer Refusal
lists_answer (Ok counts) = Ok (Answer.Counts counts.forward counts.backward)
lists_answer (Err why) = Err why

abbrev pub copy_answer : Result (Unit {0}) Refusal → Result Answer Refusal
copy_answer (Ok done) = Ok Answer.Done
copy_answer (Err why) = Err why

-- A list call's answer, with the rest after it.
abbrev pub lists_called : Result Counts Refusal → Rest → Called
lists_called given rest = record { answer = lists_answer given; rest = rest }
