-- Decimal digits read as a word: the number that they were written of.
-- Assumes nothing.
use Prim.Native.Nat.{ℕ, ◌+◌, ◌-◌, ◌*◌, ◌/◌, ◌%◌, ◌^◌, ◌≤◌, ◌<◌}
use Prim.Native.String.{String}
use native.Mathlib.Omega.{arith}
use mathlib.Core.Path.{◌≡◌, refl, sym, ap, ◌∙◌}
use mathlib.Core.Bool.{Bool, true, false, cond, ◌&&◌}
use mathlib.Core.Bool as Bool
use mathlib.Core.List.{List, [], ◌∷◌, ◌++◌, foldl}
use lib.Dec.{eqb}
use lib.ListN.{length, length-append}
use borrow.Author.Tests.{lt-ltb, le-leb, eqb-true}
use Rattle.std.specs.Prelude.{Some, codes}
use Rattle.std.specs.Option.{option_map}
use Rattle.std.specs.Str.{all_ascii_digits, bytes_eq}
use Rattle.std.specs.Char.{is_ascii_digit}
use Rattle.std.proofs.lemmas.Slice.Eq.{bytes_eq-Decides}
use Rattle.std.proofs.lemmas.Fmt.{decimal_by_steps}
use Rattle.phrases.specs.Phrases.{decimal}
use Rattle.commands.specs.Numbers.{value_of, number_to, signed_number}
use Rattle.commands.specs.Drafts.{is}

-- A word of digits, and the number that they write.
pub record DigitsRead (word : List ℕ) (n : ℕ) : Type 0 where
  pub digits : all_ascii_digits word ≡ true
  pub some : 0 < length word
  pub value : value_of word ≡ n

abbrev value_after : ℕ → List ℕ → ℕ
value_after n word = foldl (λ n c. n * 10 + (c - 48)) n word

value-snoc : (n : ℕ) (word : List ℕ) (c : ℕ) → value_after n (word ++ (c ∷ [])) ≡ value_after n word * 10 + (c - 48)
value-snoc n [] c = refl
value-snoc n (x ∷ word) c = value-snoc (n * 10 + (x - 48)) word c

digits-snoc : (word : List ℕ) (c : ℕ) → all_ascii_digits word ≡ true → is_ascii_digit c ≡ true → all_ascii_digits (word ++ (c ∷ [])) ≡ true
digits-snoc [] c e f = rw f
digits-snoc (x ∷ word) c e f = by (is_ascii_digit x) e (λ h. digits-snoc word c h f)
  where
    by : (b : Bool) → (b && all_ascii_digits word) ≡ true → (all_ascii_digits word ≡ true → all_ascii_digits (word ++ (c ∷ [])) ≡ true)
        → (b && all_ascii_digits (word ++ (c ∷ []))) ≡ true
    by true e g = g e
    by false e g = e

is-digit : (d : ℕ) → d < 10 → is_ascii_digit (48 + d) ≡ true
is-digit d h = rw (le-leb 48 (48 + d) (omega arith), le-leb (48 + d) 57 (omega arith))

one-digit : (n : ℕ) → n < 10 → DigitsRead ((48 + n) ∷ []) n
one-digit n h = record { digits = rw (is-digit n h); some = omega arith; value = omega arith }

next-digit : (word : List ℕ) (n : ℕ) → DigitsRead word (n / 10) → DigitsRead (word ++ ((48 + n % 10) ∷ [])) n
next-digit word n p =
    let long = length-append word ((48 + n % 10) ∷ []) in
    let v = p.value in
    record {
      digits = digits-snoc word (48 + n % 10) p.digits (is-digit (n % 10) (omega arith));
      some = omega arith;
      value = value-snoc 0 word (48 + n % 10) ∙ omega arith;
    }

pub read-decimal : (n : ℕ) → n < 2 ^ 32 → DigitsRead (decimal n) n
read-decimal n h = decimal_by_steps (λ m word. DigitsRead word m) one-digit (λ m word l p. next-digit word m p) n (omega arith)

number-read : (word : List ℕ) (n most : ℕ) → DigitsRead word n → n ≤ most → number_to most word ≡ Some n
number-read word n most d l = rw (lt-ltb 0 (length word) d.some, d.digits, d.value, le-leb n most l)

pub decimal-read : (n most : ℕ) → n < 2 ^ 32 → n ≤ most → number_to most (decimal n) ≡ Some n
decimal-read n most h l = number-read (decimal n) n most (read-decimal n h) l

-- Digits are none of the names, which have a letter.
pub no-name : (name : String) (word : List ℕ) → all_ascii_digits word ≡ true → all_ascii_digits (codes name) ≡ false → is name word ≡ false
no-name name word e f = by (bytes_eq word (codes name)) refl
  where
    by : (b : Bool) → bytes_eq word (codes name) ≡ b → b ≡ false
    by true g =
        let same : word ≡ codes name = (bytes_eq-Decides word (codes name)).0 g in
        absurd (Bool.false≢true (sym f ∙ ap all_ascii_digits (sym same) ∙ e))
    by false g = refl

-- ---- with a sign

no-sign : (word : List ℕ) (n : ℕ) → DigitsRead word n → n ≤ 2147483647 → signed_number word ≡ Some n
no-sign [] n d l = let some = d.some in absurd (omega arith)
no-sign (c ∷ cs) n d l = by (eqb c 45) refl
  where
    by : (b : Bool) → eqb c 45 ≡ b
        → cond b (option_map (λ m. (4294967296 - m) % 4294967296) (number_to 2147483648 cs)) (number_to 2147483647 (c ∷ cs)) ≡ Some n
    by true e = absurd (Bool.false≢true (rw (eqb-true c 45 e) at d.digits))
    by false e = number-read (c ∷ cs) n 2147483647 d l

pub positive-read : (n : ℕ) → n < 2147483648 → signed_number (decimal n) ≡ Some n
positive-read n h = no-sign (decimal n) n (read-decimal n (omega arith)) (omega arith)

pub negative-read : (m : ℕ) → 1 ≤ m → m ≤ 2147483648 → signed_number (45 ∷ decimal m) ≡ Some (4294967296 - m)
negative-read m a b =
    let small : (4294967296 - m) % 4294967296 ≡ 4294967296 - m = omega arith in
    rw (decimal-read m 2147483648 (omega arith) b, small)
