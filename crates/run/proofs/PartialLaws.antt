-- The characters that are kept of an unfinished line say what the whole line says, and how more of them are added.
-- Assumes nothing.
use Prim.Native.Nat.{ℕ, ◌+◌, ◌-◌, ◌≤◌, ◌<◌, min}
use native.Mathlib.Omega.{arith}
use mathlib.Core.Path.{◌≡◌, refl, sym, ap, ◌∙◌}
use mathlib.Core.Bool.{Bool, true, false}
use mathlib.Core.List.{List, ◌++◌}
use lib.Dec.{leb}
use lib.ListN.{length, take}
use lib.Seq.{take_all, length-take-le, take-append-add, paste, take-paste}
use borrow.Author.Tests.{leb-true, leb-false}
use Rattle.line.specs.Calls.{read_line}
use Rattle.line.proofs.CallLaws.{too_long}
use Rattle.run.specs.Partial.{kept_length}

-- The characters that are kept say what the whole line says.
pub kept-reads : (l : List ℕ) → read_line (take kept_length l) ≡ read_line l
kept-reads l = by (leb (length l) kept_length) refl
  where
    by : (b : Bool) → leb (length l) kept_length ≡ b → read_line (take kept_length l) ≡ read_line l
    by true e = ap read_line (take_all kept_length l (leb-true (length l) kept_length e))
    by false e =
        let h : kept_length < length l = leb-false (length l) kept_length e in
        let n : length (take kept_length l) ≡ kept_length = length-take-le kept_length l (omega arith) in
        too_long (take kept_length l) (omega arith) ∙ sym (too_long l (omega arith))

-- What a line holds that gets more characters.
take-least : (k : ℕ) (l : List ℕ) → take (min k (length l)) l ≡ take k l
take-least k l = by (leb k (length l)) refl
  where
    by : (b : Bool) → leb k (length l) ≡ b → take (min k (length l)) l ≡ take k l
    by true e =
        let h = leb-true k (length l) e in
        let m : min k (length l) ≡ k = omega arith in
        ap (λ (n : ℕ). take n l) m
    by false e =
        let h = leb-false k (length l) e in
        let m : length l ≤ min k (length l) = omega arith in
        take_all (min k (length l)) l m ∙ sym (take_all k l (omega arith))

-- As many of the characters are added as there is room for.
pub kept-append : (bytes part : List ℕ) (len more : ℕ) → len ≤ kept_length → length bytes ≡ kept_length → more ≡ min (kept_length - len) (length part)
    → take (len + more) (paste bytes len part more) ≡ take kept_length (take len bytes ++ part)
kept-append bytes part len more fits size e =
    let front = take len bytes in
    let n : length front ≡ len = length-take-le len bytes (omega arith) in
    let room : length front + (kept_length - len) ≡ kept_length = omega arith in
    take-paste bytes len part more (omega arith) (omega arith)
    ∙ ap (λ (k : ℕ). front ++ take k part) e
    ∙ ap (λ (l : List ℕ). front ++ l) (take-least (kept_length - len) part)
    ∙ sym (take-append-add front part (kept_length - len))
    ∙ ap (λ (k : ℕ). take k (front ++ part)) room
