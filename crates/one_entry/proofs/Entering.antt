-- The copy of one entry, by what fits.
-- Assumes nothing.
use Rattle.std.specs.Prelude.{Result, Err}
use mathlib.Core.Path.{◌≡◌, refl, sym, ap, ◌∙◌, subst}
use mathlib.Core.Bool.{Bool, true, false, ◌&&◌, true≢false}
use mathlib.Core.List.{List}
use Prim.Native.Nat.{ℕ, zero, suc, ◌+◌, ◌*◌, ◌/◌, ◌%◌, ◌<◌}
use native.Mathlib.Omega.{arith}
use lib.Dec.{eqb, ltb}
use mir.Val.{bool_byte}
use lib.ListN.{length}
use borrow.Author.Tests.{eqb-true, ltb-true}
use Rattle.seq.proofs.Tests.{and_left, and_right}
use Rattle.def.specs.State.{list_places}
use Rattle.def.specs.declared.{Answer.Answer, EvcRefP.EvcRefP, Refusal.Refusal}
use Rattle.def.specs.Results.{CopyResult}
use Rattle.std.specs.Prelude.{Result, Ok, Err}
use Rattle.def.specs.Refusals.{refusal_number, NumberInUse}
use Rattle.def.proofs.Refusals.{refusals-in-use}
use Rattle.keys.specs.Keys.{rows_length, head_of, lists_in}
use Rattle.line.specs.Answers.{reply_of}
use Rattle.refp.specs.Copy.{copy}
use Rattle.refp.specs.Answers.{copy_answer}
use Rattle.statuses.specs.Statuses.{status}
use Rattle.refp.specs.Running.{entry_with, rows_with_entry, CopyCame}
use Rattle.machine.proofs.EveryCall.{refused-answer}
use Rattle.one_entry.specs.OneEntry.{entry_given, fits, rows_placed, EntryPlaced}

pub fitting : (rows : List ℕ) (present : ℕ) (numbers : List ℕ) → fits rows present numbers ≡ true
    → (length rows ≡ rows_length) × (length numbers ≡ list_places) × (present < 2)
fitting rows present numbers e =
    let longRows = eqb (length rows) rows_length in
    let longNumbers = eqb (length numbers) list_places in
    let both = and_left (longRows && longNumbers) (ltb present 2) e in (
      eqb-true (length rows) rows_length (and_left longRows longNumbers both),
      eqb-true (length numbers) list_places (and_right longRows longNumbers both),
      ltb-true present 2 (and_right (longRows && longNumbers) (ltb present 2) e),
    )

-- twice the buffer number plus the flag is read back
pub entry-is : (present buf poc : ℕ) (numbers : List ℕ) → present < 2 → buf < 256
    → entry_with (2 * buf + present) poc numbers ≡ entry_given present buf poc numbers
entry-is present buf poc numbers f b =
    let low : (2 * buf + present) % 2 ≡ present = omega arith in
    let high : (2 * buf + present) / 2 ≡ buf = omega arith in
    let byte : (2 * buf + present) / 2 % 256 ≡ buf = rw high (omega arith) in
    rw (low, byte) refl

pub not-placed : {fit : Bool} {stored : List ℕ} (rows : List ℕ) (wanted : CopyResult) → fit ≡ false → EntryPlaced 18 fit rows rows stored wanted
not-placed rows wanted e =
    record {
      gives = rw e;
      rows_are = λ (z : ◌≡◌ {A = ℕ} 18 0). absurd (omega arith);
      lists_are = λ t. absurd (true≢false (sym t ∙ e));
      pictures_stay = λ b h. refl;
      refused_leaves = λ _. refl;
      rows_long = refl;
    }

-- the copy of the entry, whose head and numbers were made before
module _ (rows numbers : List ℕ) (cnt lidx present buf poc : ℕ) where
  abbrev entry : EvcRefP
  entry = entry_given present buf poc numbers

  -- the head of the entry that is given
  head-is : present < 2 → head_of entry ≡ 2 * buf + present
  head-is f = by present f
    where
      by : (p : ℕ) → p < 2 → 2 * buf + bool_byte (eqb p 1) ≡ 2 * buf + p
      by zero g = refl
      by (suc zero) g = refl
      by (suc (suc p)) g = absurd (omega arith)

  -- a copy's status is the one that its answer shows
  status-shown : (given : Result (Unit {0}) Refusal) → status given ≡ (reply_of 0 (copy_answer given)).status
  status-shown (Ok done) = refl
  status-shown (Err why) = refl

  -- a status of 0 is no refusal's
  not-refused : {answer : Result Answer Refusal} → (reply_of 0 answer).status ≡ 0 → (why : Refusal) → answer ≡ Err why → ⊥
  not-refused {answer} z why a =
      let number : refusal_number why ≡ 0 = sym (ap (λ (x : Result Answer Refusal). (reply_of 0 x).status) a) ∙ z in
      omega (arith, (refusals-in-use why).0)

  pub placed : {head : ℕ} {got : List ℕ} {after : List ℕ} (given : Result (Unit {0}) Refusal) → fits rows present numbers ≡ true → buf < 256
      → head ≡ 2 * buf + present → got ≡ numbers
      → CopyCame (copy_answer given) rows after (rows_with_entry rows (lidx * list_places + cnt) head poc got) (copy (lists_in rows) cnt lidx (entry_with head poc got))
      → EntryPlaced (status given) (fits rows present numbers) rows after (rows_placed rows cnt lidx entry) (copy (lists_in rows) cnt lidx entry)
  placed {head} {got} {after} given e b h n came =
      let answer = copy_answer given in
      let replied : status given ≡ (reply_of 0 answer).status = status-shown given in
      let fit = fitting rows present numbers e in
      let is : entry_with head poc got ≡ entry = rw (h, n) (entry-is present buf poc numbers fit.2 b) in
      let wanted : copy (lists_in rows) cnt lidx (entry_with head poc got) ≡ copy (lists_in rows) cnt lidx entry = ap (copy (lists_in rows) cnt lidx) is in
      let stored : rows_with_entry rows (lidx * list_places + cnt) head poc got ≡ rows_placed rows cnt lidx entry = rw (h, n, head-is fit.2) refl in
      record {
        gives = rw (e, replied, came.answers, wanted) refl;
        rows_are = λ z. came.rows_are (not-refused (sym replied ∙ z)) ∙ stored;
        lists_are = λ _. came.lists_are ∙ ap (λ (x : CopyResult). x.refp) wanted;
        pictures_stay = came.pictures_stay;
        refused_leaves = λ t. refused-answer 0 answer (subst NumberInUse replied t) came.refused_leaves;
        rows_long = came.rows_long ∙ sym fit.0;
      }
