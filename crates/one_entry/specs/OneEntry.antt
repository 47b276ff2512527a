-- The copy of one entry into the lists of the running machine.
-- Assumes nothing.
use Rattle.std.specs.Prelude.{ℕ, ◌+◌, ◌*◌, ◌≡◌, Bool, true, cond, ◌&&◌, List, eqb, ltb, length}
use Rattle.def.specs.Refusals.{NumberInUse}
use Rattle.def.specs.State.{list_places}
use Rattle.def.specs.declared.{EvcRefP.EvcRefP}
use Rattle.def.specs.Results.{CopyResult}
use Rattle.keys.specs.Keys.{rows_length, lists_in}
use Rattle.line.specs.Answers.{reply_of}
use Rattle.keys.specs.Keys.{head_of}
use Rattle.refp.specs.Running.{PicturesStay, rows_with_entry}

-- An entry by its fields; `present` is 0 or 1.
abbrev pub entry_given : ℕ → ℕ → ℕ → List ℕ → EvcRefP
entry_given present buf poc numbers = record { present = eqb present 1; buf = buf; poc = poc; list_poc = numbers }

-- Rows and list numbers of the right sizes, and a flag.
abbrev pub fits : List ℕ → ℕ → List ℕ → Bool
fits rows present numbers = (eqb (length rows) rows_length && eqb (length numbers) list_places) && ltb present 2

-- The rows with the entry at place `cnt` of list `lidx`.
abbrev pub rows_placed : List ℕ → ℕ → ℕ → EvcRefP → List ℕ
rows_placed rows cnt lidx e = rows_with_entry rows (lidx * list_places + cnt) (head_of e) e.poc e.list_poc

-- Where they fit the copy's own result, else 18. A copy that is done leaves the rows placed, number for number, and a refusal's number has written
-- nothing.
pub record EntryPlaced (r : ℕ) (fit : Bool) (rows after placed : List ℕ) (wanted : CopyResult) : Type 0 where
  pub gives : r ≡ cond fit (reply_of 0 wanted.answer).status 18
  pub rows_are : r ≡ 0 → after ≡ placed
  pub lists_are : fit ≡ true → lists_in after ≡ wanted.refp
  pub pictures_stay : PicturesStay rows after
  pub refused_leaves : NumberInUse r → after ≡ rows
  pub rows_long : length after ≡ length rows
