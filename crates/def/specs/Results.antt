-- What a call comes to.
-- Assumes nothing.
use Rattle.std.specs.Prelude.{List, Result}
use Rattle.def.specs.declared.{Answer.Answer, Refusal.Refusal, EvcPm.EvcPm, EvcRefP.EvcRefP}

-- A call's answer, or why it is turned down, with the state after it.
pub record PmResult : Type 0 where
  pub answer : Result Answer Refusal
  pub pm : EvcPm

-- The answer to a request for reference lists, with the state and the two lists, flat, after it.
pub record RefpResult : Type 0 where
  pub answer : Result Answer Refusal
  pub pm : EvcPm
  pub refp : List EvcRefP

-- The answer to a copy, with the two lists, flat, after it.
pub record CopyResult : Type 0 where
  pub answer : Result Answer Refusal
  pub refp : List EvcRefP
