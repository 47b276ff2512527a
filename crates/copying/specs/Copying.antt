-- The copy of one entry on lists that are lent.
-- Assumes nothing.
use Rattle.std.specs.Prelude.{◌≡◌, List, Result}
use Rattle.def.specs.declared.{Answer.Answer, Refusal.Refusal, EvcRefP.EvcRefP}
use Rattle.def.specs.Results.{CopyResult}

-- A copy that answers this and leaves these lists does what the specification wants.
pub record GivesCopy (wanted : CopyResult) (answer : Result Answer Refusal) (refp : List EvcRefP) : Type 0 where
  pub answers : answer ≡ wanted.answer
  pub lists_are : refp ≡ wanted.refp
