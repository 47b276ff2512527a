-- A call that answers with the state alone: what the core made of the opened state is what the definition makes of the state that came.
-- Assumes nothing.
use mathlib.Core.Path.{◌≡◌, refl, sym, ap, ◌∙◌}
use mathlib.Core.Bool.{true, false}
use mathlib.Core.List.{List}
use Prim.Native.Nat.{ℕ}
use lib.ListN.{length}
use Rattle.std.specs.Prelude.{Result, Ok, Err}
use Rattle.def.specs.State.{slots}
use Rattle.def.specs.declared.{Answer.Answer, EvcPm.EvcPm, EvcRefP.EvcRefP, Refusal.Refusal}
use Rattle.def.specs.Results.{PmResult}
use Rattle.keys.specs.declared.{Rest.Rest}
use Rattle.keys.specs.Keys.{stands, Comes}
use Rattle.whole.specs.Whole.{whole}
use Rattle.picman.specs.Get.{pm_refused}
use Rattle.entry.specs.Opening.{Opens, Gives}
use Rattle.entry.proofs.Opened.{came-whole, came-broken, opened-is, came-long}

-- A definition refuses a state that is not whole, is another one on whole states, and keeps those whole.
pub record Defined (d on : EvcPm → PmResult) : Type 0 where
  pub broken : (pm : EvcPm) → whole pm ≡ false → d pm ≡ pm_refused Refusal.StateNotWhole pm
  pub on-whole : (pm : EvcPm) → whole pm ≡ true → d pm ≡ on pm
  pub keeps : (pm : EvcPm) → length pm.pic ≡ slots → whole pm ≡ true → whole (d pm).pm ≡ true

module _ {d on : EvcPm → PmResult} (f : Defined d on) {pm : EvcPm} {refp : List EvcRefP} {keys rows : List ℕ} {o : Result Rest Refusal}
    (p : Opens pm refp keys rows o) where
  pub turned-away : {why : Refusal} → o ≡ Err why → Gives (d pm) (Err why) pm
  turned-away {why} e = rw (f.broken pm (came-broken p e), p.turned_down why e) (record { answers = refl; leaves = refl })

  module _ {rest : Rest} (e : o ≡ Ok rest) {answer : Result Answer Refusal} {keys' rows' : List ℕ} {rest' : Rest} {lists : List EvcRefP}
      (came : Comes answer keys' rows' rest' lists (on (stands keys rows rest))) where
    wanted : on (stands keys rows rest) ≡ d pm
    wanted = ap on (opened-is p e) ∙ sym (f.on-whole pm (came-whole p e))

    pub still-whole : whole (stands keys' rows' rest') ≡ true
    still-whole = ap whole (came.stands_for ∙ ap (λ (x : PmResult). x.pm) wanted) ∙ f.keeps pm (came-long p e) (came-whole p e)

    pub gives : Gives (d pm) answer (stands keys' rows' rest')
    gives = record {
      answers = came.answers ∙ ap (λ (x : PmResult). x.answer) wanted;
      leaves = came.stands_for ∙ ap (λ (x : PmResult). x.pm) wanted;
    }
