-- What `parse` gives of a word, in the words of the numbers.
-- Assumes nothing.
use Prim.Native.Nat.{ℕ, zero, suc, ◌+◌, ◌-◌, ◌*◌, ◌%◌, ◌^◌, ◌<◌, ◌≤◌}
use native.Mathlib.Omega.{arith}
use mathlib.Core.Path.{◌≡◌, refl, sym, ap, ◌∙◌}
use mathlib.Core.Bool.{Bool, true, false, cond, ◌&&◌}
use mathlib.Core.Bool as Bool
use mathlib.Core.Logic.{◌≢◌}
use mathlib.Core.List.{List, [], ◌∷◌, foldl}
use lib.Dec.{ltb, leb, eqb}
use lib.ListN.{length, get_or}
use lib.IntN.{ℤ, pos, neg_ℤ}
use mir.Syntax.{w32}
use borrow.Author.Tests.{lt-ltb, le-leb, eqb-true, eqb-false, ltb-true}
use borrow.Author.Rules.{rules}
use Rattle.std.specs.Prelude.{None, Some, Result, Ok, Err, OkIff, MatchResult, MatchOption}
use Rattle.std.specs.Option.{option_map}
use Rattle.std.specs.Result.{result_ok}
use Rattle.std.specs.Int.{cast_unsigned}
use Rattle.std.specs.Str.{all_ascii_digits, IsAscii, IsUtf8}
use Rattle.std.specs.Str.Parse.{ParsesUnsigned, ParsesSigned}
use Rattle.std.specs.Char.{is_ascii_digit}
use Rattle.std.specs.List.{starts_with}
use Rattle.std.specs.Bool.{nat_eq}
use Rattle.std.proofs.lemmas.Bool.{leb-true}
use Rattle.std.proofs.lemmas.Bool.Decides.{nat_tests}
use denote.Ref.{Bor}
use Rattle.std.proofs.lemmas.Str.{IsUtf8-from_ascii}
use Rattle.std.proofs.lemmas.Str.Ascii.{IsAscii-nil, IsAscii-cons}
use Rattle.std.proofs.lemmas.Str.Parse.{IsNumeralModel, numerals_by_fold, tells_all_ascii_digits, parse_plain, parse_signed_plain, parse_signed_minus}
use Rattle.commands.specs.Numbers.{value_of, number_to, signed_number, IsNoNumber}

abbrev pub value_after : ℕ → List ℕ → ℕ
value_after n word = foldl (λ n c. n * 10 + (c - 48)) n word

own : IsNumeralModel (λ ds. all_ascii_digits ds ≡ true) (value_after 0)
own = numerals_by_fold _ tells_all_ascii_digits value_after (search rules)

abbrev Numeral : ℕ → List ℕ → Type 0
Numeral most word = (all_ascii_digits word ≡ true) × (0 < length word) × (value_after 0 word ≤ most)

number_is : (most : ℕ) (word : List ℕ) → Numeral most word → number_to most word ≡ Some (value_of word)
number_is most word h = rw (lt-ltb 0 (length word) h.1, h.0, le-leb (value_of word) most h.2)

no-number : (most : ℕ) (word : List ℕ) → ¬ (Numeral most word) → number_to most word ≡ None
no-number most word h = by (ltb 0 (length word)) refl (all_ascii_digits word) refl (leb (value_of word) most) refl
  where
    by : (a : Bool) → ltb 0 (length word) ≡ a → (b : Bool) → all_ascii_digits word ≡ b → (c : Bool) → leb (value_of word) most ≡ c
        → cond ((a && b) && c) (Some (value_of word)) None ≡ None
    by true e true f true g = absurd (h (f, ltb-true 0 (length word) e, leb-true (value_of word) most g))
    by true e true f false g = refl
    by true e false f c g = refl
    by false e b f c g = refl

unsigned-gives : {E : Type 0} (k most : ℕ) (word : List ℕ) (r : Result ℕ E) → 2 ^ k ≡ most + 1
    → OkIff r ((all_ascii_digits word ≡ true) × (0 < length word) × (value_after 0 word < 2 ^ k)) (value_after 0 word)
    → result_ok r ≡ number_to most word
unsigned-gives k most word (Ok x) e h =
    let bound : value_of word ≤ most = omega (arith, e, h.0.2) in
    ap Some h.1 ∙ sym (number_is most word (h.0.0, h.0.1, bound))
unsigned-gives k most word (Err w) e h =
    sym (no-number most word (λ n. h (n.0, n.1, omega (arith, e, n.2))))

-- Where a word has no plus in front, `parse` gives its number.
pub unsigned-parsed : {E : Type 0} (k most : ℕ) (text word : List ℕ) (r : Result ℕ E) → 2 ^ k ≡ most + 1 → text ≡ word → get_or word 0 0 ≢ 43
    → ParsesUnsigned k 10 text r → result_ok r ≡ number_to most word
unsigned-parsed k most text word r e same plus h =
    unsigned-gives k most word r e (parse_plain own k word r (rw same at h) plus)

negative-cast : (v : ℕ) → v ≤ 2147483648 → cast_unsigned w32 (neg_ℤ (pos v)) ≡ (4294967296 - v) % 4294967296
negative-cast zero h = refl
negative-cast (suc n) h = omega arith

minus-gives : {E : Type 0} (digits : List ℕ) (r : Result ℤ E)
    → OkIff r ((all_ascii_digits digits ≡ true) × (0 < length digits) × (value_after 0 digits ≤ 2147483648)) (neg_ℤ (pos (value_after 0 digits)))
    → option_map (cast_unsigned w32) (result_ok r) ≡ option_map (λ n. (4294967296 - n) % 4294967296) (number_to 2147483648 digits)
minus-gives digits (Ok x) h =
    rw (number_is 2147483648 digits h.0) (ap (λ z. Some (cast_unsigned w32 z)) h.1 ∙ ap Some (negative-cast (value_of digits) h.0.2))
minus-gives digits (Err w) h = rw (no-number 2147483648 digits h)

plain-gives : {E : Type 0} (word : List ℕ) (r : Result ℤ E)
    → OkIff r ((all_ascii_digits word ≡ true) × (0 < length word) × (value_after 0 word < 2147483648)) (pos (value_after 0 word))
    → option_map (cast_unsigned w32) (result_ok r) ≡ number_to 2147483647 word
plain-gives word (Ok x) h =
    rw (number_is 2147483647 word (h.0.0, h.0.1, omega (arith, h.0.2))) (ap (λ z. Some (cast_unsigned w32 z)) h.1)
plain-gives word (Err w) h = rw (no-number 2147483647 word (λ n. h (n.0, n.1, omega (arith, n.2))))

signed-gives : {E : Type 0} (word : List ℕ) (r : Result ℤ E) → get_or word 0 0 ≢ 43 → ParsesSigned w32 10 word r
    → option_map (cast_unsigned w32) (result_ok r) ≡ signed_number word
signed-gives [] r plus h = plain-gives [] r (parse_signed_plain own w32 [] r h plus (λ e. omega arith)) ∙ refl
signed-gives (c ∷ cs) r plus h = by (eqb c 45) refl
  where
    by : (b : Bool) → eqb c 45 ≡ b
        → option_map (cast_unsigned w32) (result_ok r)
        ≡ cond b (option_map (λ n. (4294967296 - n) % 4294967296) (number_to 2147483648 cs)) (number_to 2147483647 (c ∷ cs))
    by true e = minus-gives cs r (parse_signed_minus own w32 (c ∷ cs) r h (eqb-true c 45 e))
    by false e = plain-gives (c ∷ cs) r (parse_signed_plain own w32 (c ∷ cs) r h plus (eqb-false c 45 e))

pub signed-parsed : {E : Type 0} (text word : List ℕ) (r : Result ℤ E) → text ≡ word → get_or word 0 0 ≢ 43 → ParsesSigned w32 10 text r
    → option_map (cast_unsigned w32) (result_ok r) ≡ signed_number word
signed-parsed text word r same plus h = signed-gives word r plus (rw same at h)

-- A word with a plus in front, or that is no text, is no number.
no-digits : (word : List ℕ) → all_ascii_digits word ≡ false → (most : ℕ) → number_to most word ≡ None
no-digits word e most = no-number most word (λ n. Bool.false≢true (sym e ∙ n.0))

digits-ascii : (word : List ℕ) → all_ascii_digits word ≡ true → IsAscii word
digits-ascii [] e = IsAscii-nil
digits-ascii (c ∷ cs) e = by (is_ascii_digit c) refl e (digits-ascii cs)
  where
    by : (b : Bool) → is_ascii_digit c ≡ b → (b && all_ascii_digits cs) ≡ true → (all_ascii_digits cs ≡ true → IsAscii cs) → IsAscii (c ∷ cs)
    by true f g more = IsAscii-cons c cs (grind (arith, nat_tests)) (more g)
    by false f g more = absurd (Bool.false≢true g)

no-text-no-digits : (word : List ℕ) → ¬ (IsUtf8 word) → all_ascii_digits word ≡ false
no-text-no-digits word h = by (all_ascii_digits word) refl
  where
    by : (b : Bool) → all_ascii_digits word ≡ b → b ≡ false
    by true e = absurd (h (IsUtf8-from_ascii word (digits-ascii word e)))
    by false e = refl

no-text-no-sign : (word : List ℕ) → ¬ (IsUtf8 word) → signed_number word ≡ None
no-text-no-sign [] h = refl
no-text-no-sign (c ∷ cs) h = by (eqb c 45) refl (all_ascii_digits cs) refl
  where
    by : (a : Bool) → eqb c 45 ≡ a → (b : Bool) → all_ascii_digits cs ≡ b
        → cond a (option_map (λ n. (4294967296 - n) % 4294967296) (number_to 2147483648 cs)) (number_to 2147483647 (c ∷ cs)) ≡ None
    by true e true f =
        let low : c < 128 = omega (arith, eqb-true c 45 e) in
        absurd (h (IsUtf8-from_ascii (c ∷ cs) (IsAscii-cons c cs low (digits-ascii cs f))))
    by true e false f = rw (no-digits cs f 2147483648)
    by false e b f = no-digits (c ∷ cs) (no-text-no-digits (c ∷ cs) h) 2147483647

no-text-is-none : (word : List ℕ) → ¬ (IsUtf8 word) → IsNoNumber word
no-text-is-none word h = record { plain = no-digits word (no-text-no-digits word h); signed = no-text-no-sign word h }

pub no-plus : (word : List ℕ) → starts_with nat_eq word (43 ∷ []) ≡ false → get_or word 0 0 ≢ 43
no-plus [] f e = omega (arith, e)
no-plus (c ∷ cs) f e = Bool.false≢true (sym (rw e at f))

-- What is text, with no plus in front, is the word.
pub text-of : {E : Type 0} (Q : E → Type 0) (word : List ℕ) (r : Result (Bor (List ℕ)) E) → get_or word 0 0 ≢ 43
    → MatchResult r (λ s. (s.now ≡ word) × IsUtf8 word) (λ e. ¬ (IsUtf8 word) × Q e)
    → MatchOption (result_ok r) (IsNoNumber word) (λ text. (text.now ≡ word) × (get_or word 0 0 ≢ 43))
text-of Q word (Ok s) plus h = (h.0, plus)
text-of Q word (Err e) plus h = no-text-is-none word h.0
