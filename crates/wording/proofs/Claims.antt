-- The claims about the table of words, proved: a word is found in the table at its own number alone.
-- Assumes nothing.
use Prim.Native.Nat.{ℕ, ◌+◌, ◌*◌, ◌<◌, ◌≤◌}
use native.Mathlib.Omega.{arith}
use mathlib.Core.Path.{◌≡◌, refl, sym, ap, ◌∙◌}
use mathlib.Core.Bool.{Bool, true, false, cond}
use mathlib.Core.Logic.{⊎_elim}
use mathlib.Core.List.{List, [], foldl}
use lib.Dec.{eqb}
use lib.ListN.{get_or}
use borrow.Author.Tests.{le-leb, lt-leb}
use Rattle.seq.specs.Lists.{lowest, entries, entries_from}
use Rattle.seq.proofs.Tests.{lt-or-ge}
use Rattle.seq.proofs.Rows.{entry}
use Rattle.def.specs.declared.Refusal.{Refusal}
use Rattle.def.specs.Refusals.{refusal_number, number_in_use, NumberInUse}
use Rattle.def.proofs.Refusals.{refusals-in-use}
use Rattle.wording.specs.Words.{words, status_word}
use Rattle.wording.specs.Claims.{EachHasItsWord, NoOtherShowsIt}

pub each-has-its-word : EachHasItsWord
unfolding status_word
each-has-its-word Refusal.SizeTooBig = refl
each-has-its-word Refusal.StoreFull = refl
each-has-its-word Refusal.PictureLeased = refl
each-has-its-word Refusal.NoLease = refl
each-has-its-word Refusal.SlotTaken = refl
each-has-its-word Refusal.NumberTooHigh = refl
each-has-its-word Refusal.StateNotWhole = refl
each-has-its-word Refusal.TooManyReferences = refl
each-has-its-word Refusal.NoReferences = refl
each-has-its-word Refusal.ForwardListEmpty = refl
each-has-its-word Refusal.SameNumber = refl
each-has-its-word Refusal.NoSuchPlace = refl
each-has-its-word Refusal.BadLayer = refl
each-has-its-word Refusal.BadRecord = refl
each-has-its-word Refusal.BadLength = refl
each-has-its-word Refusal.BadLine = refl
each-has-its-word Refusal.BadPlan = refl
each-has-its-word Refusal.NoRoom = refl

-- a word as one number, and where the table has it
abbrev key : List ℕ → ℕ
key w = foldl (λ (n c : ℕ). n * 256 + c) 1 w

abbrev place : List ℕ → ℕ
place w = lowest (λ (x : List ℕ). eqb (key x) (key w)) words

-- where the words are found: each at its number, the two withdrawn ones at the first of them
abbrev found : ℕ → ℕ
found n = cond (number_in_use n) n (cond (eqb n 0) 0 10)

found_at : (k : ℕ) → k < 21 → place (get_or words k []) ≡ found k
unfolding lowest entries entries_from
found_at k h =
    let same : entries (λ (n : ℕ). place (get_or words n [])) 21 ≡ entries found 21 = refl in
    sym (entry (λ (n : ℕ). place (get_or words n [])) 0 21 k h) ∙ ap (λ (l : List ℕ). get_or l k 0) same ∙ entry found 0 21 k h

not-in-use : (n m : ℕ) (b c : Bool) → cond b n (cond c 0 10) ≡ m → NumberInUse m → n ≡ m
not-in-use n m true c e u = e
not-in-use n m false true e u = absurd (let a = u.0 in omega arith)
not-in-use n m false false e u = absurd (u.2 (sym e))

word-place-of : (why : Refusal) → place (status_word (refusal_number why)) ≡ refusal_number why
unfolding status_word lowest
word-place-of Refusal.SizeTooBig = refl
word-place-of Refusal.StoreFull = refl
word-place-of Refusal.PictureLeased = refl
word-place-of Refusal.NoLease = refl
word-place-of Refusal.SlotTaken = refl
word-place-of Refusal.NumberTooHigh = refl
word-place-of Refusal.StateNotWhole = refl
word-place-of Refusal.TooManyReferences = refl
word-place-of Refusal.NoReferences = refl
word-place-of Refusal.ForwardListEmpty = refl
word-place-of Refusal.SameNumber = refl
word-place-of Refusal.NoSuchPlace = refl
word-place-of Refusal.BadLayer = refl
word-place-of Refusal.BadRecord = refl
word-place-of Refusal.BadLength = refl
word-place-of Refusal.BadLine = refl
word-place-of Refusal.BadPlan = refl
word-place-of Refusal.NoRoom = refl

pub no-other-shows-it : NoOtherShowsIt
unfolding status_word
no-other-shows-it why status e = ⊎_elim (λ (h : status < 21). low h) (λ (h : 21 ≤ status). absurd (high h)) (lt-or-ge status 21)
  where
    there : place (status_word status) ≡ refusal_number why
    there = ap place (e ∙ sym (each-has-its-word why)) ∙ word-place-of why

    low : status < 21 → status ≡ refusal_number why
    low h =
        let shown : status_word status ≡ get_or words status [] = rw (le-leb status 20 (omega arith)) in
        not-in-use status (refusal_number why) (number_in_use status) (eqb status 0) (sym (found_at status h) ∙ ap place (sym shown) ∙ there) (refusals-in-use why)

    high : 21 ≤ status → ⊥
    high h =
        let shown : status_word status ≡ get_or words 0 [] = rw (lt-leb status 20 (omega arith)) in
        let none : refusal_number why ≡ 0 = sym there ∙ ap place shown ∙ found_at 0 (omega arith) in
        let u = (refusals-in-use why).0 in
        omega arith
