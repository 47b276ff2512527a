-- The numbers of the entries stand one after the other. Assumes nothing.
use Prim.Native.Nat.{ℕ, ◌+◌, ◌*◌, ◌≤◌, ◌<◌}
use mathlib.Core.Path.{◌≡◌, refl, sym, ap, ◌∙◌}
use mathlib.Core.Bool.{Bool, ◌||◌}
use mathlib.Core.List.{List, [], ◌∷◌, map}
use native.Mathlib.Omega.{arith}
use lib.Dec.{eqb}
use lib.ListN.{length, get_or, take, drop, length-drop, length-map}
use lib.Seq.{ext_get_or, length-take-le, get_or-take, get_or-drop}
use Rattle.std.specs.List.{list_any}
use Rattle.seq.specs.Lists.{any_of}
use Rattle.seq.proofs.Maps.{map-any}
use Rattle.seq.proofs.Members.{map_at}
use Rattle.def.specs.declared.EvcRefP.{EvcRefP}
use Rattle.def.specs.State.{list_places, no_ref_p}
use Rattle.keys.specs.Keys.{row_length, number_row, rows_length, lists_in}
use Rattle.refp.proofs.Entries.{lists-long, lists_at}

-- the library's test is that of the definitions
any-same : {A : Type 0} (p : A → Bool) (xs : List A) → list_any p xs ≡ any_of p xs
unfolding any_of
any-same p [] = refl
any-same p (x ∷ xs) = ap (λ (b : Bool). p x || b) (any-same p xs)

module _ (rows : List ℕ) (long : length rows ≡ rows_length) (from n : ℕ) (fits : from + n ≤ list_places + list_places) where
  numbers-long : length (take n (drop (row_length * number_row + from) rows)) ≡ n
  numbers-long = length-take-le n (drop (row_length * number_row + from) rows) (let d = length-drop (row_length * number_row + from) rows in omega arith)

  entries-long : length (take n (drop from (lists_in rows))) ≡ n
  entries-long = length-take-le n (drop from (lists_in rows)) (let d = length-drop from (lists_in rows) in let l = lists-long rows in omega arith)

  numbers-are : take n (drop (row_length * number_row + from) rows) ≡ map (λ (e : EvcRefP). e.poc) (take n (drop from (lists_in rows)))
  numbers-are =
      ext_get_or 0 (take n (drop (row_length * number_row + from) rows)) (map (λ (e : EvcRefP). e.poc) (take n (drop from (lists_in rows))))
      (numbers-long ∙ sym (length-map (take n (drop from (lists_in rows))) (λ (e : EvcRefP). e.poc) ∙ entries-long))
      (λ i h.
      let below : i < n = let l = numbers-long in omega arith in
      let at : row_length * number_row + (from + i) ≡ row_length * number_row + from + i = omega arith in
      get_or-take n (drop (row_length * number_row + from) rows) i 0 below
      ∙ get_or-drop (row_length * number_row + from) rows i 0
      ∙ ap (λ (k : ℕ). get_or rows k 0) (sym at)
      ∙ ap (λ (e : EvcRefP). e.poc)
      (sym (get_or-take n (drop from (lists_in rows)) i no_ref_p below ∙ get_or-drop from (lists_in rows) i no_ref_p ∙ lists_at rows (from + i) (omega arith)))
      ∙ sym (map_at (λ (e : EvcRefP). e.poc) (take n (drop from (lists_in rows))) i no_ref_p 0 (let l = entries-long in omega arith)))

  pub numbers-tell : (poc m : ℕ) → m ≡ n → list_any (λ y. eqb y poc) (take m (drop (row_length * number_row + from) rows))
      ≡ any_of (λ (e : EvcRefP). eqb e.poc poc) (take n (drop from (lists_in rows)))
  numbers-tell poc m e =
      rw e
      (any-same (λ y. eqb y poc) (take n (drop (row_length * number_row + from) rows))
      ∙ ap (any_of (λ y. eqb y poc)) numbers-are
      ∙ map-any (λ (e : EvcRefP). e.poc) (λ y. eqb y poc) (take n (drop from (lists_in rows))))
