-- What a call's result is answered with.
-- Assumes nothing.
use Rattle.std.specs.Prelude.{Option, Some, None, Result, Ok, Err}
use Rattle.def.specs.declared.{Answer.Answer, Refusal.Refusal}
use Rattle.picman.specs.declared.{Shown.Shown, NoMoreOutput.NoMoreOutput}

abbrev pub init_answer : Result (Unit {0}) Refusal → Result Answer Refusal
init_answer (Ok u) = Ok Answer.Done
init_answer (Err why) = Err why

abbrev pub get_answer : Result Shown Refusal → Result Answer Refusal
get_answer (Ok s) = Ok (Answer.Picture s.buffer s.poc)
get_answer (Err why) = Err why

-- A put of no picture shows none.
abbrev pub put_answer : Result (Option Shown) Refusal → Result Answer Refusal
put_answer (Ok (Some s)) = Ok (Answer.Picture s.buffer s.poc)
put_answer (Ok None) = Ok Answer.Done
put_answer (Err why) = Err why

-- Out is not turned down. Where a picture is still wanted and none is due, it is not yet.
abbrev pub out_answer : Result (Option Shown) NoMoreOutput → Answer
out_answer (Ok (Some s)) = Answer.Picture s.buffer s.poc
out_answer (Ok None) = Answer.NotYet
out_answer (Err e) = Answer.NoMore
