-- What an accepted call gives back, and what any call comes to.
-- Assumes nothing.
use Rattle.std.specs.Prelude.{ℕ, Result, Ok, Err}
use Rattle.def.specs.declared.{PocVal.PocVal, DocOffset.DocOffset, EvcPoc.EvcPoc, Refusal.Refusal}
use Rattle.poc.specs.PictureNumber.{Derivation, derivation_refused}

-- The number z, with the record for the next call.
abbrev pub derived_as : PocVal → ℕ → DocOffset → Derivation
derived_as z prev d = record { answer = Ok z; poc = record { poc_val = z; prev_poc_val = prev; prev_doc_offset = d } }

-- A call on the record r comes to this: the record after it, whose number is the answer, or why it is turned down.
abbrev pub left_by : EvcPoc → Result EvcPoc Refusal → Derivation
left_by r (Ok after) = record { answer = Ok after.poc_val; poc = after }
left_by r (Err why) = derivation_refused why r
