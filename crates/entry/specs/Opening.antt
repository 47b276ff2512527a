-- States by value, and the running form: what the entry points share.
-- Assumes nothing.
use Rattle.std.specs.Prelude.{ℕ, ◌≡◌, List, Result, Ok, Err, is_ok}
use Rattle.def.specs.declared.{Answer.Answer, Refusal.Refusal, EvcPm.EvcPm, EvcRefP.EvcRefP}
use Rattle.def.specs.Results.{PmResult}
use Rattle.keys.specs.declared.{Rest.Rest}
use Rattle.keys.specs.Keys.{lists_in, stands, Sized}
use Rattle.whole.specs.Whole.{whole}

-- It is told whether the state is whole; where it is, keys, rows and rest stand for it. The lists stay.
pub record Opens (pm : EvcPm) (lists : List EvcRefP) (keys rows : List ℕ) (o : Result Rest Refusal) : Type 0 where
  pub tells : is_ok o ≡ whole pm
  pub turned_down : (why : Refusal) → o ≡ Err why → why ≡ Refusal.StateNotWhole
  pub stands_for : (rest : Rest) → o ≡ Ok rest → stands keys rows rest ≡ pm
  pub lists_stay : lists_in rows ≡ lists
  pub sized : Sized keys rows

-- A call that answers this and leaves this state does what the specification wants.
pub record Gives (wanted : PmResult) (answer : Result Answer Refusal) (after : EvcPm) : Type 0 where
  pub answers : answer ≡ wanted.answer
  pub leaves : after ≡ wanted.pm
