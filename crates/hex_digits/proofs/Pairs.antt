-- Steps of the loops over pairs of digits: what one more pair adds to the bytes read, and what one more byte adds to the digits written.
-- Assumes nothing.
use Prim.Native.Nat.{ℕ, suc, ◌+◌, ◌*◌, ◌<◌}
use native.Mathlib.Omega.{arith}
use native.Mathlib.Numerals.{add-one}
use mathlib.Core.Path.{◌≡◌, refl, sym, ap, ◌∙◌}
use mathlib.Core.Bool.{Bool, true, false, ◌&&◌}
use mathlib.Core.List.{List, ◌∷◌, ◌++◌}
use lib.ListN.{length, get_or, take, drop, set}
use lib.Seq.{drop-cons, take-suc-set, append_snoc}
use Rattle.seq.specs.Lists.{all_of}
use Rattle.hex_digits.specs.Hex.{is_digit, digit_value, bytes_of}

-- Two elements from place 2 i on.
pub drop-pair : (cs : List ℕ) (i : ℕ) → 2 * i + 1 < length cs → drop (2 * i) cs ≡ get_or cs (2 * i) 0 ∷ get_or cs (2 * i + 1) 0 ∷ drop (2 * (i + 1)) cs
drop-pair cs i h =
    let low : 2 * i < length cs = omega arith in
    let e : suc (2 * i) ≡ 2 * i + 1 = omega arith in
    let f : suc (2 * i + 1) ≡ 2 * (i + 1) = omega arith in
    drop-cons cs (2 * i) 0 low
    ∙ ap (λ (k : ℕ). get_or cs (2 * i) 0 ∷ drop k cs) e
    ∙ ap (λ (l : List ℕ). get_or cs (2 * i) 0 ∷ l) (drop-cons cs (2 * i + 1) 0 h ∙ ap (λ (k : ℕ). get_or cs (2 * i + 1) 0 ∷ drop k cs) f)

-- What a pair of digits adds, at the front of the characters left.
pub pair-hex : (cs : List ℕ) (i : ℕ) → 2 * i + 1 < length cs
    → all_of is_digit (drop (2 * i) cs) ≡ (is_digit (get_or cs (2 * i) 0) && (is_digit (get_or cs (2 * i + 1) 0) && all_of is_digit (drop (2 * (i + 1)) cs)))
unfolding all_of
pair-hex cs i h = ap (all_of is_digit) (drop-pair cs i h)

and-pass : (a b c : Bool) → a ≡ true → b ≡ true → (a && (b && c)) ≡ c
and-pass true true c e f = refl
and-pass true false c e f = absurd (let z : ◌≡◌ {A = ℕ} 0 1 = cc in omega arith)
and-pass false b c e f = absurd (let z : ◌≡◌ {A = ℕ} 0 1 = cc in omega arith)

-- A pair of digits, and the characters behind it.
pub digits-pass : (cs : List ℕ) (i : ℕ) → 2 * i + 1 < length cs → is_digit (get_or cs (2 * i) 0) ≡ true → is_digit (get_or cs (2 * i + 1) 0) ≡ true
    → all_of is_digit (drop (2 * (i + 1)) cs) ≡ all_of is_digit (drop (2 * i) cs)
digits-pass cs i h e f =
    sym (pair-hex cs i h ∙ and-pass (is_digit (get_or cs (2 * i) 0)) (is_digit (get_or cs (2 * i + 1) 0)) (all_of is_digit (drop (2 * (i + 1)) cs)) e f)

not-both : (h l rest : Bool) → (h && l) ≡ false → (h && (l && rest)) ≡ false
not-both false l rest e = refl
not-both true l rest e = simp e

-- A pair that is not two digits, anywhere among the characters left.
pub not-hex : (cs : List ℕ) (i : ℕ) → 2 * i + 1 < length cs → (is_digit (get_or cs (2 * i) 0) && is_digit (get_or cs (2 * i + 1) 0)) ≡ false
    → all_of is_digit (drop (2 * i) cs) ≡ false
not-hex cs i h e = pair-hex cs i h ∙ not-both (is_digit (get_or cs (2 * i) 0)) (is_digit (get_or cs (2 * i + 1) 0)) _ e

pub pair-bytes : (cs bs : List ℕ) (i b : ℕ) → 2 * i + 1 < length cs → i < length bs
    → b ≡ 16 * digit_value (get_or cs (2 * i) 0) + digit_value (get_or cs (2 * i + 1) 0)
    → take (i + 1) (set bs i b) ++ bytes_of (drop (2 * (i + 1)) cs) ≡ take i bs ++ bytes_of (drop (2 * i) cs)
unfolding bytes_of
pair-bytes cs bs i b p q e =
    let rest = bytes_of (drop (2 * (i + 1)) cs) in
    ap (λ (k : ℕ). take k (set bs i b) ++ rest) (add-one i)
    ∙ ap (λ (t : List ℕ). t ++ rest) (take-suc-set bs i b q)
    ∙ append_snoc (take i bs) b rest
    ∙ rw e (sym (rw (drop-pair cs i p)))
