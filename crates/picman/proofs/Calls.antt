-- A call on keys that comes to one result comes to an equal one; and a call turned down.
-- Assumes nothing.
use Rattle.std.specs.Prelude.{Result, Ok, Err}
use Prim.Native.Nat.{ℕ}
use mathlib.Core.Path.{◌≡◌, refl, sym, ap, subst}
use mathlib.Core.List.{List}
use native.Mathlib.Omega.{arith}
use Rattle.def.specs.declared.{Answer.Answer, Refusal.Refusal}
use Rattle.def.specs.Results.{PmResult}
use Rattle.keys.specs.declared.{Rest.Rest}
use Rattle.keys.specs.Keys.{row_at, lists_in, stands, Sized, Comes}
use Rattle.picman.specs.Get.{pm_refused}
use Rattle.picman.specs.OnKeys.{Calls}

pub calls_by : {answer : Result Answer Refusal} {keys rows : List ℕ} {rest : Rest} {keys' rows' : List ℕ} {rest' : Rest} {a b : PmResult} → a ≡ b
    → Calls answer keys rows rest keys' rows' rest' b → Calls answer keys rows rest keys' rows' rest' a
calls_by {answer} {keys} {rows} {rest} {keys'} {rows'} {rest'} e c = subst (λ (x : PmResult). Calls answer keys rows rest keys' rows' rest' x) (sym e) c

pub calls-refused : (why : Refusal) (keys rows : List ℕ) (rest : Rest) → Sized keys rows
    → Calls (Err why) keys rows rest keys rows rest (pm_refused why (stands keys rows rest))
calls-refused why keys rows rest s =
    record {
      comes = record { answers = refl; stands_for = refl; lists_stay = refl; still_sized = s };
      other_rows = λ b n. refl;
      untouched = λ w e. record { same_keys = refl; same_rows = refl; same_rest = refl };
    }

-- A call that shows a picture is not turned down.
pub calls-picture : {keys rows : List ℕ} {rest : Rest} {keys' rows' : List ℕ} {rest' : Rest} {wanted : PmResult} {b n : ℕ}
    → ((i : ℕ) → (i ≡ b → ⊥) → row_at rows' i ≡ row_at rows i)
    → Comes (Ok (Answer.Picture b n)) keys' rows' rest' (lists_in rows) wanted → Calls (Ok (Answer.Picture b n)) keys rows rest keys' rows' rest' wanted
calls-picture {n = n} others c = record {
  comes = c;
  other_rows = λ i no. others i (λ (same : i ≡ _). no n (ap (λ (x : ℕ). Ok (Answer.Picture x n)) (sym same)));
  untouched = λ why f. let z : ◌≡◌ {A = ℕ} 0 1 = cc in absurd (omega arith);
}

pub calls-done : {keys rows : List ℕ} {rest : Rest} {keys' : List ℕ} {rest' : Rest} {wanted : PmResult}
    → Comes (Ok Answer.Done) keys' rows rest' (lists_in rows) wanted → Calls (Ok Answer.Done) keys rows rest keys' rows rest' wanted
calls-done c = record {
  comes = c;
  other_rows = λ b no. refl;
  untouched = λ why f. let z : ◌≡◌ {A = ℕ} 0 1 = cc in absurd (omega arith);
}
