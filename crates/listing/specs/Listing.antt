-- The list call on a state and lists that are lent.
-- Assumes nothing.
use Rattle.std.specs.Prelude.{◌≡◌, List, Result}
use Rattle.def.specs.declared.{Answer.Answer, Refusal.Refusal, EvcPm.EvcPm, EvcRefP.EvcRefP}
use Rattle.def.specs.Results.{RefpResult}

-- A list call that answers this and leaves this state and these lists does what the specification wants.
pub record GivesLists (wanted : RefpResult) (answer : Result Answer Refusal) (after : EvcPm) (refp : List EvcRefP) : Type 0 where
  pub answers : answer ≡ wanted.answer
  pub leaves : after ≡ wanted.pm
  pub lists_are : refp ≡ wanted.refp
