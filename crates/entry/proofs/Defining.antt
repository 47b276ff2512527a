-- The calls as definitions that answer with the state alone.
-- Assumes nothing.
use mathlib.Core.Path.{◌≡◌, refl, ◌∙◌, subst}
use mathlib.Core.Bool.{false}
use mathlib.Core.List.{List}
use Prim.Native.Nat.{ℕ}
use Rattle.def.specs.declared.{Answer.Answer, EvcPm.EvcPm, EvcRefP.EvcRefP, PutCall.PutCall, Refusal.Refusal}
use Rattle.keys.specs.declared.{Rest.Rest}
use Rattle.keys.specs.Keys.{lists_in, stands, Comes}
use Rattle.picman.specs.Get.{pm_refused, get, get_whole}
use Rattle.picman.specs.Put.{remarked, put_marked, put, put_whole}
use Rattle.picman.specs.Out.{out, out_whole}
use Rattle.picman.proofs.GetKeeps.{get-keeps-whole}
use Rattle.picman.proofs.PutLaws.{put-safe}
use Rattle.std.specs.Prelude.{Result}
use Rattle.entries.specs.Entries.{ListsTaken}
use Rattle.picman.specs.Init.{init, init_whole}
use Rattle.picman.proofs.InitLaws.{init-keeps-whole}
use Rattle.picman.proofs.OutLaws.{out-keeps-whole}
use Rattle.entry.specs.Opening.{Opens}
use Rattle.entry.proofs.Calling.{Defined}

pub get-defined : Defined get get_whole
unfolding get
get-defined = record { broken = λ pm e. rw e refl; on-whole = λ pm e. rw e refl; keeps = get-keeps-whole }

pub out-defined : Defined out out_whole
unfolding out
out-defined = record { broken = λ pm e. rw e refl; on-whole = λ pm e. rw e refl; keeps = out-keeps-whole }

broken-put : (pm : EvcPm) (refp : List EvcRefP) (c : PutCall) → put_marked false pm (remarked c pm) refp c ≡ pm_refused Refusal.StateNotWhole pm
unfolding put_marked
broken-put pm refp c = refl

pub put-defined : (refp : List EvcRefP) (c : PutCall) → Defined (λ pm. put pm refp c) (λ pm. put_whole pm refp c)
put-defined refp c = record {
  broken = λ pm e. rw e (broken-put pm refp c);
  on-whole = λ pm e. rw e;
  keeps = λ pm l e. (put-safe pm refp c l).stays_whole e;
}

pub init-defined : (size refs : ℕ) → Defined (λ pm. init pm size refs) (λ pm. init_whole pm size refs)
unfolding init
init-defined size refs = record { broken = λ pm e. rw e refl; on-whole = λ pm e. rw e refl; keeps = λ pm l e. init-keeps-whole pm size refs e }

-- the state as it was opened, with the lists that came
pub opened : {pm : EvcPm} {refp : List EvcRefP} {before keys rows : List ℕ} {o : Result Rest Refusal} → ListsTaken refp before → Opens pm (lists_in before) keys rows o
    → Opens pm refp keys rows o
opened t o = record { tells = o.tells; turned_down = o.turned_down; stands_for = o.stands_for; lists_stay = o.lists_stay ∙ t.lists_are; sized = o.sized }

-- A put on the lists that came.
pub put-on-lists : {pm : EvcPm} {refp : List EvcRefP} {keys rows : List ℕ} {o : Result Rest Refusal} → Opens pm refp keys rows o
    → (c : PutCall) (rest : Rest) {answer : Result Answer Refusal} {keys' rows' : List ℕ} {rest' : Rest} {lists : List EvcRefP}
    → Comes answer keys' rows' rest' lists (put_whole (stands keys rows rest) (lists_in rows) c)
    → Comes answer keys' rows' rest' lists (put_whole (stands keys rows rest) refp c)
put-on-lists {keys} {rows} p c rest {answer} {keys'} {rows'} {rest'} {lists} came =
    subst (λ (es : List EvcRefP). Comes answer keys' rows' rest' lists (put_whole (stands keys rows rest) es c)) p.lists_stay came
