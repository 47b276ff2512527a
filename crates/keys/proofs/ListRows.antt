-- The list entries among the rows: a buffer's row that is written leaves them, and the forward list's numbers are a row.
-- Assumes nothing.
use mathlib.Core.Path.{◌≡◌, refl, sym, ap, ◌∙◌}
use mathlib.Core.List.{List, map}
use Prim.Native.Nat.{ℕ, ◌+◌, ◌-◌, ◌*◌, ◌<◌, ◌≤◌}
use native.Mathlib.Omega.{arith}
use lib.ListN.{length, get_or, take, length-map}
use lib.Seq.{paste, ext_get_or, get_or-take, get_or-drop, length-take-le, drop-paste}
use Rattle.seq.specs.Lists.{entries}
use Rattle.seq.proofs.Rows.{entry, length-entries}
use Rattle.seq.proofs.Members.{map_at}
use Rattle.def.specs.declared.EvcRefP.{EvcRefP}
use Rattle.def.specs.State.{slots, list_places, no_ref_p}
use Rattle.keys.specs.Keys.{rows_length, row_length, number_row, row_at, entry_at, lists_in}
use Rattle.keys.proofs.RowLaws.{row_other, row_number, row-length}

entries-same : {A : Type 0} (d : A) (f g : ℕ → A) (n : ℕ) → ((k : ℕ) → k < n → f k ≡ g k) → entries f n ≡ entries g n
entries-same d f g n h =
    ext_get_or d (entries f n) (entries g n) (length-entries f n ∙ sym (length-entries g n))
    (λ k l. let m : k < n = omega (arith, length-entries f n) in entry f d n k m ∙ h k m ∙ sym (entry g d n k m))

module _ (rows : List ℕ) (b : ℕ) (ns : List ℕ) (n : ℕ) (long : length rows ≡ rows_length) (h : b < slots) (few : n ≤ row_length) (there : n ≤ length ns) where
  abbrev after : List ℕ
  after = paste rows (row_length * b) ns n

  beyond : (k : ℕ) → row_length * b + n ≤ k → get_or after k 0 ≡ get_or rows k 0
  beyond k l =
      let m : ℕ = k - (row_length * b + n) in
      let e : k ≡ row_length * b + n + m = omega arith in
      rw e
      (sym (get_or-drop (row_length * b + n) after m 0)
      ∙ ap (λ (x : List ℕ). get_or x m 0) (drop-paste rows (row_length * b) ns n (omega arith) there)
      ∙ get_or-drop (row_length * b + n) rows m 0)

  -- A buffer's row is written: the lists stay.
  pub lists_stay : lists_in (paste rows (row_length * b) ns n) ≡ lists_in rows
  lists_stay = entries-same no_ref_p (entry_at after) (entry_at rows) (2 * list_places) (λ j l. same j)
    where
      same : (j : ℕ) → entry_at (paste rows (row_length * b) ns n) j ≡ entry_at rows j
      same j =
          rw (
            beyond (567 + j) (omega arith),
            beyond (609 + j) (omega arith),
            row_other rows b ns n long (omega arith) few there (31 + j) (λ e. omega arith),
          ) refl

-- The forward list's first numbers are those of the row of its numbers.
pub forward-numbers : (rows : List ℕ) (n : ℕ) → length rows ≡ rows_length → n ≤ row_length
    → map (λ (e : EvcRefP). e.poc) (take n (lists_in rows)) ≡ take n (row_at rows number_row)
forward-numbers rows n long h =
    let row : length (row_at rows number_row) ≡ row_length = row-length rows number_row long (omega arith) in
    let all : length (lists_in rows) ≡ 2 * list_places = length-entries (entry_at rows) (2 * list_places) in
    let few : length (take n (lists_in rows)) ≡ n = length-take-le n (lists_in rows) (omega arith) in
    let front : length (map (λ (e : EvcRefP). e.poc) (take n (lists_in rows))) ≡ n = length-map (take n (lists_in rows)) _ ∙ few in
    let back : length (take n (row_at rows number_row)) ≡ n = length-take-le n (row_at rows number_row) (omega arith) in
    ext_get_or 0 (map (λ (e : EvcRefP). e.poc) (take n (lists_in rows))) (take n (row_at rows number_row)) (front ∙ sym back) (λ k l.
    let m : k < n = omega arith in
    map_at (λ (e : EvcRefP). e.poc) (take n (lists_in rows)) k no_ref_p 0 (omega arith)
    ∙ ap (λ (e : EvcRefP). e.poc) (get_or-take n (lists_in rows) k no_ref_p m ∙ entry (entry_at rows) no_ref_p (2 * list_places) k (omega arith))
    ∙ sym (get_or-take n (row_at rows number_row) k 0 m ∙ row_number rows number_row k (omega arith)))
