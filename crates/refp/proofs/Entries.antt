-- An entry stored in its place of the rows, and all entries dropped: what is read back, and what stays. Assumes nothing.
use Prim.Native.Nat.{ℕ, ◌+◌, ◌-◌, ◌*◌, ◌<◌, ◌≤◌}
use mathlib.Core.Path.{◌≡◌, refl, sym, ap, ◌∙◌, subst}
use mathlib.Core.Bool.{Bool, true, false}
use mathlib.Core.List.{List, ◌++◌, map, append_assoc}
use mathlib.Core.Logic.{◌⊎◌, inl, inr, ⊎_elim}
use native.Mathlib.Omega.{arith}
use lib.Dec.{eqb, lit≤}
use lib.ListN.{length, get_or, set, take, drop, replicate, length-set, length-map, get_or-replicate, get_or-append}
use lib.Seq.{paste, ext_get_or, get_or-take, get_or-set_same, get_or-set_other, drop-set-lt, drop-set-add, take-set-le, length-take-le, length-paste}
use borrow.Author.Tests.{eqb-true, eqb-false}
use Rattle.seq.proofs.Rows.{entry, length-entries}
use Rattle.seq.proofs.Members.{map_at}
use Rattle.seq.proofs.Tests.{lt-or-ge}
use Rattle.def.specs.State.{list_places, no_ref_p}
use Rattle.def.specs.declared.EvcRefP.{EvcRefP}
use Rattle.keys.specs.Keys.{row_length, head_row, number_row, entry_row, rows_length, row_at, head_at, number_at, entry_at, lists_in}
use Rattle.keys.proofs.RowLaws.{row_other, row_number, row-length, row-whole}
use Rattle.refp.specs.Lists.{dropped}
use Rattle.refp.specs.Running.{entry_with, EntryStored, Dropped}

same-or-other : (i j : ℕ) → (i ≡ j) ⊎ (i ≡ j → ⊥)
same-or-other i j = pick (eqb i j) refl
  where
    pick : (b : Bool) → eqb i j ≡ b → (i ≡ j) ⊎ (i ≡ j → ⊥)
    pick true e = inl (eqb-true i j e)
    pick false e = inr (eqb-false i j e)

-- ---- the lists by their entries

pub lists-long : (rows : List ℕ) → length (lists_in rows) ≡ list_places + list_places
lists-long rows = length-entries (entry_at rows) (2 * list_places)

pub lists_at : (rows : List ℕ) (i : ℕ) → i < list_places + list_places → get_or (lists_in rows) i no_ref_p ≡ entry_at rows i
lists_at rows i h = entry (entry_at rows) no_ref_p (2 * list_places) i h

-- an entry by what is read of it
parts : (rows : List ℕ) (i head poc : ℕ) (numbers : List ℕ) → head_at rows i ≡ head → number_at rows i ≡ poc → row_at rows (entry_row + i) ≡ numbers
    → entry_at rows i ≡ entry_with head poc numbers
parts rows i head poc numbers a b c = λ x. entry_with (a x) (b x) (c x)

-- ---- a number that is set, and what is read of it

row-set : (rows : List ℕ) (p v c : ℕ) → (p < 21 * c) ⊎ (21 * c + 21 ≤ p) → row_at (set rows p v) c ≡ row_at rows c
unfolding row_at
row-set rows p v c (inl h) = ap (take 21) (drop-set-lt (21 * c) rows p v h)
row-set rows p v c (inr h) =
    let e : 21 * c + (p - 21 * c) ≡ p = omega arith in
    rw (← e)
    (ap (take 21) (drop-set-add (21 * c) rows (p - 21 * c) v)
    ∙ take-set-le 21 (drop (21 * c) rows) (p - 21 * c) v (omega arith))

-- a number in front of what is pasted
paste-front : (d : List ℕ) (at : ℕ) (s : List ℕ) (n i : ℕ) → at ≤ length d → i < at → get_or (paste d at s n) i 0 ≡ get_or d i 0
paste-front d at s n i h l =
    let f : length (take at d) ≡ at = length-take-le at d h in
    rw (append_assoc (take at d) (take n s) (drop (at + n) d))
    (get_or-append (take at d) (take n s ++ drop (at + n) d) 0 i (omega arith)
    ∙ get_or-take at d i 0 l)

-- ---- one entry

module _ (rows : List ℕ) (long : length rows ≡ rows_length) (j : ℕ) (h : j < list_places + list_places) (head poc : ℕ) where
  marked : List ℕ
  marked = set (set rows (row_length * head_row + j) head) (row_length * number_row + j) poc

  pub marked-long : length (set (set rows (row_length * head_row + j) head) (row_length * number_row + j) poc) ≡ rows_length
  unfolding marked
  marked-long = length-set (set rows (row_length * head_row + j) head) (row_length * number_row + j) poc ∙ length-set rows (row_length * head_row + j) head ∙ long

  marked_row : (c : ℕ) → (c < head_row) ⊎ (entry_row ≤ c) → row_at marked c ≡ row_at rows c
  unfolding marked
  marked_row c (inl l) =
      row-set (set rows (row_length * head_row + j) head) (row_length * number_row + j) poc c (inr (omega arith))
      ∙ row-set rows (row_length * head_row + j) head c (inr (omega arith))
  marked_row c (inr l) =
      row-set (set rows (row_length * head_row + j) head) (row_length * number_row + j) poc c (inl (omega arith))
      ∙ row-set rows (row_length * head_row + j) head c (inl (omega arith))

  module _ (numbers : List ℕ) (wide : length numbers ≡ row_length) where
    stored : List ℕ
    stored = paste marked (row_length * (entry_row + j)) numbers row_length

    stored_row : (c : ℕ) → (c ≡ entry_row + j → ⊥) → (c < head_row) ⊎ (entry_row ≤ c) → row_at stored c ≡ row_at rows c
    unfolding stored marked
    stored_row c other l =
        row_other marked (entry_row + j) numbers row_length marked-long (omega arith) (lit≤ tt) (omega (arith, wide)) c other ∙ marked_row c l

    -- the numbers in front of the rows of the entries
    stored-front : (i : ℕ) → i < row_length * entry_row → get_or stored i 0 ≡ get_or marked i 0
    unfolding stored marked
    stored-front i l = paste-front marked (row_length * (entry_row + j)) numbers row_length i (omega (arith, marked-long)) (omega arith)

    here : entry_at stored j ≡ entry_with head poc numbers
    unfolding stored marked
    here =
        parts stored j head poc numbers
        (stored-front (row_length * head_row + j) (omega arith)
        ∙ get_or-set_other (set rows (row_length * head_row + j) head) (row_length * number_row + j) (row_length * head_row + j) poc 0 (λ e. omega arith)
        ∙ get_or-set_same rows (row_length * head_row + j) head 0 (omega arith))
        (stored-front (row_length * number_row + j) (omega arith)
        ∙ get_or-set_same (set rows (row_length * head_row + j) head) (row_length * number_row + j) poc 0
        (omega (arith, length-set rows (row_length * head_row + j) head)))
        (row-whole marked (entry_row + j) numbers marked-long (omega arith) wide)

    there : (i : ℕ) → i < list_places + list_places → (i ≡ j → ⊥) → entry_at stored i ≡ entry_at rows i
    unfolding marked
    there i l other =
        parts stored i (head_at rows i) (number_at rows i) (row_at rows (entry_row + i))
        (stored-front (row_length * head_row + i) (omega arith)
        ∙ get_or-set_other (set rows (row_length * head_row + j) head) (row_length * number_row + j) (row_length * head_row + i) poc 0 (λ e. omega arith)
        ∙ get_or-set_other rows (row_length * head_row + j) (row_length * head_row + i) head 0 (λ e. other (omega arith)))
        (stored-front (row_length * number_row + i) (omega arith)
        ∙ get_or-set_other (set rows (row_length * head_row + j) head) (row_length * number_row + j) (row_length * number_row + i) poc 0 (λ e. other (omega arith))
        ∙ get_or-set_other rows (row_length * head_row + j) (row_length * number_row + i) head 0 (λ e. omega arith))
        (stored_row (entry_row + i) (λ e. other (omega arith)) (inr (omega arith)))

    pub entry-stored : EntryStored rows
        (paste (set (set rows (row_length * head_row + j) head) (row_length * number_row + j) poc) (row_length * (entry_row + j)) numbers row_length)
        j (entry_with head poc numbers)
    unfolding stored marked
    entry-stored = record {
      lists_are =
          ext_get_or no_ref_p (lists_in stored) (set (lists_in rows) j e) (lists-long stored ∙ sym (length-set (lists_in rows) j e ∙ lists-long rows))
          (λ i l. let n = lists-long stored in lists_at stored i (omega arith) ∙ each i (omega arith) (same-or-other i j));
      pictures_stay = λ b l. stored_row b (λ x. omega arith) (inl l);
      rows_long = length-paste marked (row_length * (entry_row + j)) numbers row_length (omega (arith, marked-long)) (omega (arith, wide)) ∙ marked-long;
    }
      where
        e : EvcRefP
        e = entry_with head poc numbers

        each : (i : ℕ) → i < list_places + list_places → (i ≡ j) ⊎ (i ≡ j → ⊥) → entry_at stored i ≡ get_or (set (lists_in rows) j e) i no_ref_p
        each i l (inl s) = rw s (here ∙ sym (get_or-set_same (lists_in rows) j e no_ref_p (omega (arith, lists-long rows))))
        each i l (inr o) = there i l o ∙ sym (lists_at rows i l) ∙ sym (get_or-set_other (lists_in rows) j i e no_ref_p o)

  -- the list numbers of a picture, copied
  pub picture-stored : (mid after : List ℕ) (b : ℕ) → b < head_row → mid ≡ set (set rows (row_length * head_row + j) head) (row_length * number_row + j) poc
      → after ≡ paste mid (row_length * (entry_row + j)) (row_at mid b) row_length → EntryStored rows after j (entry_with head poc (row_at rows b))
  unfolding marked
  picture-stored mid after b l m e =
      subst (λ (x : List ℕ). EntryStored rows x j (entry_with head poc (row_at rows b)))
      (sym (e ∙ ap (λ (x : List ℕ). paste x (row_length * (entry_row + j)) (row_at x b) row_length) m))
      (subst (λ (ns : List ℕ). EntryStored rows (paste marked (row_length * (entry_row + j)) (row_at marked b) row_length) j (entry_with head poc ns))
      (marked_row b (inl l))
      (entry-stored (row_at marked b) (row-length marked b marked-long (omega arith))))

-- ---- all entries dropped

-- heads and numbers of the entries by their rows
front-or-back : (rows : List ℕ) (first i : ℕ) → i < list_places + list_places
    → ((c : ℕ) × (k : ℕ) × (k < 21) × ((c ≡ first) ⊎ (c ≡ first + 1))
    × (get_or rows (21 * first + i) 0 ≡ get_or (row_at rows c) k 0) × (21 * first + i ≡ 21 * c + k))
front-or-back rows first i h = pick (lt-or-ge i 21)
  where
    pick : (i < 21) ⊎ (21 ≤ i)
        → ((c : ℕ) × (k : ℕ) × (k < 21) × ((c ≡ first) ⊎ (c ≡ first + 1))
        × (get_or rows (21 * first + i) 0 ≡ get_or (row_at rows c) k 0) × (21 * first + i ≡ 21 * c + k))
    pick (inl l) = (first, i, l, inl refl, sym (row_number rows first i l), refl)
    pick (inr l) =
        let e : 21 * first + i ≡ 21 * (first + 1) + (i - 21) = omega arith in
        (first + 1, i - 21, omega arith, inr refl, rw e (sym (row_number rows (first + 1) (i - 21) (omega arith))), e)

module _ (rows : List ℕ) (long : length rows ≡ rows_length) where
  zeros : List ℕ
  zeros = replicate row_length 0

  once : List ℕ
  once = paste rows (row_length * head_row) zeros row_length

  twice : List ℕ
  twice = paste once (row_length * (head_row + 1)) zeros row_length

  pub once-long : length (paste rows (row_length * head_row) (replicate row_length 0) row_length) ≡ rows_length
  unfolding once zeros
  once-long = length-paste rows (row_length * head_row) zeros row_length (omega arith) (lit≤ tt) ∙ long

  twice-long : length twice ≡ rows_length
  unfolding once twice zeros
  twice-long = let n : length once ≡ rows_length = once-long in length-paste once (row_length * (head_row + 1)) zeros row_length (omega arith) (lit≤ tt) ∙ n

  head-row : (c : ℕ) → (c ≡ head_row) ⊎ (c ≡ head_row + 1) → row_at twice c ≡ zeros
  unfolding once twice zeros
  head-row c (inl e) =
      rw e
      (row_other once (head_row + 1) zeros row_length once-long (lit≤ tt) (lit≤ tt) (lit≤ tt) head_row (λ x. omega arith)
      ∙ row-whole rows head_row zeros long (lit≤ tt) refl)
  head-row c (inr e) = rw e (row-whole once (head_row + 1) zeros once-long (lit≤ tt) refl)

  other_row : (c : ℕ) → (c < head_row) ⊎ (number_row ≤ c) → row_at twice c ≡ row_at rows c
  unfolding once twice zeros
  other_row c s =
      row_other once (head_row + 1) zeros row_length once-long (lit≤ tt) (lit≤ tt) (lit≤ tt) c (λ e. apart s (inr e))
      ∙ row_other rows head_row zeros row_length long (lit≤ tt) (lit≤ tt) (lit≤ tt) c (λ e. apart s (inl e))
    where
      apart : (c < head_row) ⊎ (number_row ≤ c) → (c ≡ head_row) ⊎ (c ≡ head_row + 1) → ⊥
      apart (inl l) (inl e) = omega arith
      apart (inl l) (inr e) = omega arith
      apart (inr l) (inl e) = omega arith
      apart (inr l) (inr e) = omega arith

  head-gone : (i : ℕ) → i < list_places + list_places → head_at twice i ≡ 0
  unfolding zeros
  head-gone i h =
      let f = front-or-back twice head_row i h in
      f.4 ∙ ap (λ (l : List ℕ). get_or l f.1 0) (head-row f.0 f.3) ∙ get_or-replicate row_length f.1 0 0 f.2

  number-stays : (i : ℕ) → i < list_places + list_places → number_at twice i ≡ number_at rows i
  number-stays i h =
      let f = front-or-back twice number_row i h in
      f.4 ∙ ap (λ (l : List ℕ). get_or l f.1 0) (other_row f.0 (inr (⊎_elim (λ e. omega arith) (λ e. omega arith) f.3)))
      ∙ row_number rows f.0 f.1 f.2 ∙ ap (λ (n : ℕ). get_or rows n 0) (sym f.5)

  pub entries-dropped : Dropped rows
      (paste (paste rows (row_length * head_row) (replicate row_length 0) row_length) (row_length * (head_row + 1)) (replicate row_length 0) row_length)
  unfolding once twice zeros
  entries-dropped = record {
    lists_are =
        ext_get_or no_ref_p (lists_in twice) (map dropped (lists_in rows)) (lists-long twice ∙ sym (length-map (lists_in rows) dropped ∙ lists-long rows))
        (λ i l. let n = lists-long twice in lists_at twice i (omega arith) ∙ each i (omega arith));
    pictures_stay = λ b l. other_row b (inl l);
    rows_long = twice-long;
  }
    where
      each : (i : ℕ) → i < list_places + list_places → entry_at twice i ≡ get_or (map dropped (lists_in rows)) i no_ref_p
      each i h =
          parts twice i 0 (number_at rows i) (row_at rows (entry_row + i)) (head-gone i h) (number-stays i h) (other_row (entry_row + i) (inr (omega arith)))
          ∙ ap dropped (sym (lists_at rows i h))
          ∙ sym (map_at dropped (lists_in rows) i no_ref_p no_ref_p (omega (arith, lists-long rows)))
