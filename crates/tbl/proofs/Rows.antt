-- Both tables are rows for the lengths 2, 4, 8, 12 and 16, the row of length n at n / 4: one law reads an entry of either by its rule.
-- Assumes nothing.
use Prim.Native.Nat.{ℕ, ◌+◌, ◌-◌, ◌*◌, ◌/◌, ◌<◌, ◌≤◌}
use native.Mathlib.Omega.{arith}
use mathlib.Core.Path.{◌≡◌, refl, sym, ap, ◌∙◌, subst}
use mathlib.Core.Bool.{Bool, true, false, cond, ◌&&◌, ◌||◌, false≢true}
use mathlib.Core.List.{List, []}
use lib.Dec.{eqb, ltb}
use lib.ListN.{get_or}
use borrow.Author.Tests.{eqb-true, ltb-true, ltb-false, lt-ltb, le-ltb}
use Rattle.std.specs.Prelude.{Ok, Err}
use Rattle.seq.specs.Lists.{entries}
use Rattle.seq.proofs.Rows.{entry}
use Rattle.def.specs.declared.Refusal.TheVariants.{BadLength}
use Rattle.tbl.specs.DepthRows.{is_gop_size, entry_of}

-- the length that row r is for
abbrev pub length_at : ℕ → ℕ
length_at r = cond (eqb r 0) 2 (4 * r)

-- What holds of the four lengths holds of a group's length
pub each-length : (P : ℕ → Type 0) → P 2 → P 4 → P 8 → P 16 → (n : ℕ) → is_gop_size n ≡ true → P n
each-length P p2 p4 p8 p16 n e = go (eqb n 2) (eqb n 4) (eqb n 8) (eqb n 16) refl refl refl refl e
  where
    at : (m : ℕ) → P m → eqb n m ≡ true → P n
    at m p h = subst P (sym (eqb-true n m h)) p

    go : (a b c d : Bool) → eqb n 2 ≡ a → eqb n 4 ≡ b → eqb n 8 ≡ c → eqb n 16 ≡ d → (a || b || c || d) ≡ true → P n
    go true b c d ha hb hc hd h = at 2 p2 ha
    go false true c d ha hb hc hd h = at 4 p4 hb
    go false false true d ha hb hc hd h = at 8 p8 hc
    go false false false true ha hb hc hd h = at 16 p16 hd
    go false false false false ha hb hc hd h = absurd (false≢true h)

-- what is known of a group's length: its row, and that it is at least 2 and at most 16
pub record Gop (n : ℕ) : Type 0 where
  pub row : length_at (n / 4) ≡ n
  pub low : 2 ≤ n
  pub high : n ≤ 16

pub gop : (n : ℕ) → is_gop_size n ≡ true → Gop n
gop =
    each-length Gop
    (record { row = refl; low = omega arith; high = omega arith })
    (record { row = refl; low = omega arith; high = omega arith })
    (record { row = refl; low = omega arith; high = omega arith })
    (record { row = refl; low = omega arith; high = omega arith })

-- What a row for length n holds at position j: the rule's depth where n is a group's length and the row has that position, and 255 elsewhere.
abbrev pub in_row : (ℕ → ℕ → Bool) → (ℕ → ℕ → ℕ) → ℕ → ℕ → ℕ
in_row within rule n j = cond (is_gop_size n && within n j) (rule n j) 255

-- A table whose rows have w entries.
abbrev pub table_of : ℕ → (ℕ → ℕ → Bool) → (ℕ → ℕ → ℕ) → List (List ℕ)
table_of w within rule = entries (λ r. entries (in_row within rule (length_at r)) w) 5

pub depth-at : (w : ℕ) (within : ℕ → ℕ → Bool) (rule : ℕ → ℕ → ℕ) (n j : ℕ) → is_gop_size n ≡ true → j < w → within n j ≡ true
    → get_or (get_or (table_of w within rule) (n / 4) []) j 0 ≡ rule n j
depth-at w within rule n j e h inside =
    let g : Gop n = gop n e in
    let low : n / 4 < 5 = let k = g.high in omega arith in
    ap (λ (row : List ℕ). get_or row j 0) (entry (λ r. entries (in_row within rule (length_at r)) w) [] 5 (n / 4) low)
    ∙ entry (in_row within rule (length_at (n / 4))) 0 w j h
    ∙ ap (λ (m : ℕ). in_row within rule m j) g.row
    ∙ ap (λ (b : Bool). cond (b && within n j) (rule n j) 255) e
    ∙ ap (λ (b : Bool). cond b (rule n j) 255) inside

-- the last place but one, told by either test
pub before-last : (j n : ℕ) → ltb j (n - 1) ≡ ltb (j + 1) n
before-last j n = go (ltb (j + 1) n) refl
  where
    go : (b : Bool) → ltb (j + 1) n ≡ b → ltb j (n - 1) ≡ b
    go true i = let l : j + 1 < n = ltb-true (j + 1) n i in lt-ltb j (n - 1) (omega arith)
    go false i = let l : n ≤ j + 1 = ltb-false (j + 1) n i in le-ltb j (n - 1) (omega arith)

-- The answer is the rule's depth where the row has the position, and 17 elsewhere.
pub answer-is : (w : ℕ) (within : ℕ → ℕ → Bool) (rule : ℕ → ℕ → ℕ) (n places j : ℕ) → is_gop_size n ≡ true → places ≤ w
    → ltb j places ≡ within n j
    → entry_of (table_of w within rule) n places j ≡ cond (is_gop_size n && within n j) (Ok (rule n j)) (Err BadLength)
answer-is w within rule n places j e fits same = rw e (go (within n j) refl)
  where
    go : (b : Bool) → within n j ≡ b → entry_of (table_of w within rule) n places j ≡ cond b (Ok (rule n j)) (Err BadLength)
    go true i =
        let t : ltb j places ≡ true = same ∙ i in
        let l : j < places = ltb-true j places t in
        rw t (ap Ok (depth-at w within rule n j e (omega arith) i))
    go false i = let t : ltb j places ≡ false = same ∙ i in rw t
