-- `adding::copy_refp` meets its contract: the two refusals, and the entry stored in its place. Assumes nothing.
use Rattle.std.specs.Prelude.{Ok, Err}
use Prim.Native.Nat.{ℕ, ◌+◌, ◌*◌, ◌≤◌, ◌<◌}
use mathlib.Core.Logic.{◌⊎◌, inl, inr}
use mathlib.Core.Path.{◌≡◌, refl, sym, ◌∙◌}
use mathlib.Core.Bool.{Bool, true, false, ◌||◌}
use mathlib.Core.List.{List}
use native.Mathlib.Omega.{arith}
use lib.Dec.{ltb}
use lib.ListN.{length, set}
use borrow.Author.Rules.{rules}
use borrow.Author.Tests.{lt-ltb, le-ltb}
use Rattle.def.specs.declared.{EvcRefP.EvcRefP, Answer.Answer, Refusal.Refusal}
use Rattle.def.specs.Results.{CopyResult}
use Rattle.keys.specs.Keys.{rows_length, lists_in}
use Rattle.refp.specs.Copy.{copy}
use Rattle.refp.specs.Running.{entry_with, EntryStored, CopyCame}
use Rattle.refp.proofs.Entries.{entry-stored}
use Rattle.adding.proofs.copy_refp.Goals as goal

no-place : (cnt lidx : ℕ) → (21 ≤ cnt) ⊎ ((cnt < 21) × (2 ≤ lidx)) → (ltb 20 cnt || ltb 1 lidx) ≡ true
no-place cnt lidx (inl h) = rw (lt-ltb 20 cnt h) refl
no-place cnt lidx (inr h) = pick (ltb 20 cnt)
  where
    pick : (b : Bool) → (b || ltb 1 lidx) ≡ true
    pick true = refl
    pick false = lt-ltb 1 lidx h.1

there : (cnt lidx : ℕ) → cnt ≤ 20 → lidx ≤ 1 → (ltb 20 cnt || ltb 1 lidx) ≡ false
there cnt lidx h l = rw (le-ltb 20 cnt h, le-ltb 1 lidx l) refl

module _ (rows : List ℕ) (long : length rows ≡ rows_length) where
  turned-down-came : {stored : List ℕ} (why : Refusal) (r : CopyResult) → r ≡ record { answer = Err why; refp = lists_in rows }
      → CopyCame (Err why) rows rows stored r
  turned-down-came why r e = record {
    answers = sym (rw e);
    lists_are = sym (rw e);
    rows_are = λ n. absurd (n why refl);
    pictures_stay = λ b h. refl;
    rows_long = long;
    refused_leaves = λ w a. refl;
  }

  copied-came : {after stored : List ℕ} (j : ℕ) (e : EvcRefP) (r : CopyResult) → after ≡ stored → EntryStored rows stored j e
      → r ≡ record { answer = Ok Answer.Done; refp = set (lists_in rows) j e }
      → CopyCame (Ok Answer.Done) rows after stored r
  copied-came j e r is s q = rw is (record {
    answers = sym (rw q);
    lists_are = s.lists_are ∙ sym (rw q);
    rows_are = λ _. refl;
    pictures_stay = s.pictures_stay;
    rows_long = s.rows_long;
    refused_leaves = λ why a. absurd (clash a);
  })
    where
      clash : {why : Refusal} → Ok Answer.Done ≡ Err why → ⊥
      clash e = let z : ◌≡◌ {A = ℕ} 0 1 = cc in omega arith

pub returns-then-cnt : goal.returns-then-cnt
unfolding copy
returns-then-cnt c = turned-down-came c.args.rows.now c.requires Refusal.NoSuchPlace _ (rw (no-place c.args.cnt c.args.lidx c.then-cnt.either) refl)

pub returns-then-number_stands : goal.returns-then-number_stands
unfolding copy
returns-then-number_stands c =
    turned-down-came c.args.rows.now c.requires Refusal.SameNumber _
    (rw (there c.args.cnt c.args.lidx (omega arith) (omega arith), sym c.number_stands.ensures ∙ c.if-number_stands.true) refl)

pub returns : goal.returns
unfolding copy
returns c =
    let a = c.args in
    let j = a.lidx * 21 + a.cnt in
    let e = entry_with a.head a.poc a.numbers.now in
    copied-came a.rows.now c.requires j e _
    (c.write_row.ensures ∙ rw c.write_head.ensures refl)
    (entry-stored a.rows.now c.requires j (omega arith) a.head a.poc a.numbers.now (search rules))
    (rw (there c.args.cnt c.args.lidx (omega arith) (omega arith), sym c.number_stands.ensures ∙ c.if-number_stands.false) refl)
