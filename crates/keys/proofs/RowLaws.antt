-- A row that is written: it holds what was written, and no other row sees it.
-- Assumes nothing.
use mathlib.Core.Path.{◌≡◌, sym, ap, ◌∙◌}
use mathlib.Core.List.{List, [], ◌∷◌, ◌++◌, append_assoc, append-nil}
use Prim.Native.Nat.{ℕ, zero, suc, ◌+◌, ◌*◌, ◌-◌, ◌<◌, ◌≤◌}
use mathlib.Core.Logic.{◌⊎◌, inl, inr}
use native.Mathlib.Omega.{arith}
use lib.ListN.{length, get_or, take, drop, length-drop, drop_of_length-le}
use borrow.Rule.Slice.PartMut.{put_mid}
use lib.Seq.{paste, get_or-take, get_or-drop, length-take-le, take_at, drop_at, drop-drop, drop-append-le, take-append-le, take-take, drop-paste, take_all, take-nil, take-append-add}
use Rattle.seq.proofs.Tests.{lt-or-ge}
use Rattle.keys.specs.Keys.{rows_length, row_count, row_at}

pub drop-take : {A : Type 0} (n m : ℕ) (l : List A) → drop n (take m l) ≡ take (m - n) (drop n l)
drop-take zero m l = let e : m ≡ m - 0 = omega arith in ap (λ (k : ℕ). take k l) e
drop-take (suc n) zero l = let e : 0 ≡ 0 - suc n = omega arith in ap (λ (k : ℕ). take k (drop (suc n) l)) e
drop-take {A} (suc n) (suc m) [] = sym (take-nil {A = A} (suc m - suc n))
drop-take (suc n) (suc m) (x ∷ l) = let e : m - n ≡ suc m - suc n = omega arith in drop-take n m l ∙ ap (λ (k : ℕ). take k (drop n l)) e

pub different : (c b : ℕ) → (c ≡ b → ⊥) → b ≤ c → b < c
different c b e l = by (lt-or-ge b c)
  where
    by : (b < c) ⊎ (c ≤ b) → b < c
    by (inl h) = h
    by (inr h) = absurd (e (omega arith))

module _ (rows : List ℕ) (b : ℕ) (ns : List ℕ) (n : ℕ) (long : length rows ≡ rows_length) (h : b < row_count) (few : n ≤ 21) (there : n ≤ length ns) where
  -- The row itself: the first n are new, the rest as they were.
  pub row_written : row_at (paste rows (21 * b) ns n) b ≡ take n ns ++ drop n (row_at rows b)
  unfolding row_at
  row_written =
      let front : List ℕ = take (21 * b) rows in
      let back : List ℕ = drop (21 * b + n) rows in
      let fl : length front ≡ 21 * b = length-take-le (21 * b) rows (omega arith) in
      let nl : length (take n ns) ≡ n = length-take-le n ns there in
      let e : 21 ≡ length (take n ns) + (21 - n) = omega arith in
      let a : drop (21 * b) (paste rows (21 * b) ns n) ≡ take n ns ++ back =
      ap (drop (21 * b)) (append_assoc front (take n ns) back) ∙ drop_at front (take n ns ++ back) (21 * b) fl in
      let c : take 21 (take n ns ++ back) ≡ take n ns ++ take (21 - n) back =
      ap (λ (k : ℕ). take k (take n ns ++ back)) e ∙ take-append-add (take n ns) back (21 - n) in
      let d : drop n (take 21 (drop (21 * b) rows)) ≡ take (21 - n) back =
      drop-take n 21 (drop (21 * b) rows) ∙ ap (take (21 - n)) (drop-drop n (21 * b) rows) in
      ap (take 21) a ∙ c ∙ ap (λ (l : List ℕ). take n ns ++ l) (sym d)

  -- No other row sees it.
  pub row_other : (c : ℕ) → (c ≡ b → ⊥) → row_at (paste rows (21 * b) ns n) c ≡ row_at rows c
  unfolding row_at
  row_other c e = by (lt-or-ge c b)
    where
      new : List ℕ
      new = paste rows (21 * b) ns n

      by : (c < b) ⊎ (b ≤ c) → take 21 (drop (21 * c) new) ≡ take 21 (drop (21 * c) rows)
      by (inl l) =
          let front : List ℕ = take (21 * b) rows in
          let fl : length front ≡ 21 * b = length-take-le (21 * b) rows (omega arith) in
          let cut : drop (21 * c) front ≡ take (21 * b - 21 * c) (drop (21 * c) rows) = drop-take (21 * c) (21 * b) rows in
          let dl : length (drop (21 * c) front) ≡ length front - 21 * c = length-drop (21 * c) front in
          ap (λ (x : List ℕ). take 21 (drop (21 * c) x)) (append_assoc front (take n ns) (drop (21 * b + n) rows))
          ∙ ap (take 21) (drop-append-le (21 * c) front (take n ns ++ drop (21 * b + n) rows) (omega arith))
          ∙ take-append-le 21 (drop (21 * c) front) (take n ns ++ drop (21 * b + n) rows) (omega arith)
          ∙ ap (take 21) cut
          ∙ take-take 21 (21 * b - 21 * c) (drop (21 * c) rows) (omega arith)
      by (inr l) =
          let g : b < c = omega (arith, different c b e l) in
          let m : ℕ = 21 * c - (21 * b + n) in
          let at : 21 * c ≡ 21 * b + n + m = omega arith in
          ap (λ (k : ℕ). take 21 (drop k new)) at
          ∙ ap (take 21) (sym (drop-drop m (21 * b + n) new))
          ∙ ap (λ (x : List ℕ). take 21 (drop m x)) (drop-paste rows (21 * b) ns n (omega arith) there)
          ∙ ap (take 21) (drop-drop m (21 * b + n) rows)
          ∙ ap (λ (k : ℕ). take 21 (drop k rows)) (sym at)

-- A row copied within rows that are cut in two: it is read in the one part and pasted in the other.
module _ (rows front back new : List ℕ) (b at n : ℕ) (whole : rows ≡ front ++ back) (few : n ≤ 21) where
  read : take n (drop (21 * b) rows) ≡ take n (row_at rows b)
  unfolding row_at
  read = sym (take-take n 21 (drop (21 * b) rows) few)

  pub copied-behind : 21 * b + n ≤ length front → length front ≡ at → new ≡ take n (drop (21 * b) front)
      → front ++ (new ++ drop n back) ≡ paste rows at (row_at rows b) n
  copied-behind long cut e =
      let cut_there : take at rows ≡ front = ap (take at) whole ∙ take_at front back at cut in
      let rest : drop (at + n) rows ≡ drop n back = sym (drop-drop n at rows) ∙ ap (λ (l : List ℕ). drop n (drop at l)) whole ∙ ap (drop n) (drop_at front back at cut) in
      let read_there : take n (drop (21 * b) rows) ≡ take n (drop (21 * b) front) =
      ap (λ (l : List ℕ). take n (drop (21 * b) l)) whole
      ∙ ap (take n) (drop-append-le (21 * b) front back (omega arith))
      ∙ take-append-le n (drop (21 * b) front) back (omega (arith, length-drop (21 * b) front)) in
      sym (append_assoc front new (drop n back))
      ∙ ap (λ (l : List ℕ). (front ++ l) ++ drop n back) (e ∙ sym read_there ∙ read)
      ∙ ap (λ (l : List ℕ). (l ++ take n (row_at rows b)) ++ drop n back) (sym cut_there)
      ∙ ap (λ (l : List ℕ). (take at rows ++ take n (row_at rows b)) ++ l) (sym rest)

  pub copied-before : length front ≡ 21 * b → at + n ≤ length front → new ≡ take n back
      → put_mid at n front new ++ back ≡ paste rows at (row_at rows b) n
  copied-before cut long e =
      let before : take at rows ≡ take at front = ap (take at) whole ∙ take-append-le at front back (omega arith) in
      let rest : drop (at + n) rows ≡ drop (at + n) front ++ back = ap (drop (at + n)) whole ∙ drop-append-le (at + n) front back long in
      let read_there : take n (drop (21 * b) rows) ≡ take n back =
      ap (λ (l : List ℕ). take n (drop (21 * b) l)) whole ∙ ap (take n) (drop_at front back (21 * b) cut) in
      ap (λ (l : List ℕ). (take at front ++ (new ++ l)) ++ back) (drop-drop n at front)
      ∙ ap (λ (l : List ℕ). l ++ back) (sym (append_assoc (take at front) new (drop (at + n) front)))
      ∙ append_assoc (take at front ++ new) (drop (at + n) front) back
      ∙ ap (λ (l : List ℕ). (take at front ++ l) ++ (drop (at + n) front ++ back)) (e ∙ sym read_there ∙ read)
      ∙ ap (λ (l : List ℕ). (l ++ take n (row_at rows b)) ++ (drop (at + n) front ++ back)) (sym before)
      ∙ ap (λ (l : List ℕ). (take at rows ++ take n (row_at rows b)) ++ l) (sym rest)

-- The first n numbers of a list written into rows, as the part that they fill comes back.
pub front-pasted : (rows numbers : List ℕ) (at n : ℕ) → put_mid at n rows (take n numbers) ≡ paste rows at numbers n
front-pasted rows numbers at n =
    ap (λ (l : List ℕ). take at rows ++ (take n numbers ++ l)) (drop-drop n at rows) ∙ sym (append_assoc (take at rows) (take n numbers) (drop (at + n) rows))

-- a number of a row
pub row_number : (rows : List ℕ) (b j : ℕ) → j < 21 → get_or (row_at rows b) j 0 ≡ get_or rows (21 * b + j) 0
unfolding row_at
row_number rows b j h = get_or-take 21 (drop (21 * b) rows) j 0 h ∙ get_or-drop (21 * b) rows j 0

pub row-length : (rows : List ℕ) (b : ℕ) → length rows ≡ rows_length → b < row_count → length (row_at rows b) ≡ 21
unfolding row_at
row-length rows b l h = length-take-le 21 (drop (21 * b) rows) (omega (arith, length-drop (21 * b) rows))

-- a whole row that is written
pub row-whole : (rows : List ℕ) (b : ℕ) (ns : List ℕ) → length rows ≡ rows_length → b < row_count → length ns ≡ 21 → row_at (paste rows (21 * b) ns 21) b ≡ ns
row-whole rows b ns l h e =
    row_written rows b ns 21 l h (omega arith) (omega arith)
    ∙ ap (λ (x : List ℕ). take 21 ns ++ x) (drop_of_length-le (row_at rows b) {i = 21} (omega (arith, row-length rows b l h)))
    ∙ append-nil (take 21 ns)
    ∙ take_all 21 ns (omega arith)
