-- The words for a call are far below the longest line, so the program reads them.
-- Assumes nothing.
use Prim.Native.Nat.{ℕ, ◌+◌, ◌-◌, ◌/◌, ◌%◌, ◌^◌, ◌≤◌, ◌<◌}
use native.Mathlib.Omega.{arith}
use mathlib.Core.Path.{◌≡◌, refl}
use mathlib.Core.Bool.{Bool, true, false, cond}
use mathlib.Core.List.{List, [], ◌∷◌}
use lib.Dec.{ltb, eqb}
use lib.ListN.{length, length-append}
use borrow.Author.Tests.{le-ltb}
use Rattle.line.specs.declared.Call.{Call}
use Rattle.line.specs.declared.Call.TheVariants.{Init, GetEmptyPic, PutPic, OutPic, RefpInit, PocDerivation}
use Rattle.line.specs.Claims.{CallFits}
use Rattle.std.proofs.lemmas.Fmt.{length-decimal-le}
use Rattle.phrases.specs.Phrases.{chars, decimal}
use Rattle.asking.specs.Asked.{longest, asked}
use Rattle.spelling.specs.Spelling.{signed_decimal, slice_name, flag_names, is_set, call_words, spaced, say_command}
use Rattle.spelling.specs.Claims.{SaidIsAsked}
use Rattle.spelling.proofs.Claims.{said-is-read}

-- The characters of words with a space behind each.
unfoldable width : List (List ℕ) → ℕ
width [] = 0
width (w ∷ ws) = length w + 1 + width ws

spaced-short : (ws : List (List ℕ)) → length (spaced ws) ≤ width ws
unfolding width
spaced-short [] = omega arith
spaced-short (w ∷ []) = omega arith
spaced-short (w ∷ v ∷ ws) = let e = length-append w (32 ∷ spaced (v ∷ ws)) in let h = spaced-short (v ∷ ws) in omega arith

-- ---- each word

decimal-short : (n : ℕ) → n < 2 ^ 64 → length (decimal n) ≤ 20
decimal-short n h = length-decimal-le 20 n (omega arith) (omega arith) h

byte-short : (n : ℕ) → n < 256 → length (decimal n) ≤ 20
byte-short n h = decimal-short n (omega arith)

word-short : (n : ℕ) → n < 2 ^ 32 → length (decimal n) ≤ 20
word-short n h = decimal-short n (omega arith)

signed-short : (n : ℕ) → n < 2 ^ 32 → length (signed_decimal n) ≤ 21
signed-short n h = by (ltb n 2147483648)
  where
    by : (b : Bool) → length (cond b (decimal n) (45 ∷ decimal (4294967296 - n))) ≤ 21
    by true = let l = word-short n h in omega arith
    by false = let l = decimal-short (4294967296 - n) (omega arith) in omega arith

slice-short : (n : ℕ) → n < 256 → length (slice_name n) ≤ 20
slice-short n h = by (eqb n 1) (eqb n 2) (eqb n 3)
  where
    by : (a b c : Bool) → length (cond a (chars "I") (cond b (chars "P") (cond c (chars "B") (decimal n)))) ≤ 20
    by true b c = let e : length (chars "I") ≡ 1 = refl in omega arith
    by false true c = let e : length (chars "P") ≡ 1 = refl in omega arith
    by false false true = let e : length (chars "B") ≡ 1 = refl in omega arith
    by false false false = byte-short n h

flags-short : (a b c d : Bool) → width (flag_names a b c d) ≤ 17
unfolding width
flags-short true true true true = omega arith
flags-short true true true false = omega arith
flags-short true true false true = omega arith
flags-short true true false false = omega arith
flags-short true false true true = omega arith
flags-short true false true false = omega arith
flags-short true false false true = omega arith
flags-short true false false false = omega arith
flags-short false true true true = omega arith
flags-short false true true false = omega arith
flags-short false true false true = omega arith
flags-short false true false false = omega arith
flags-short false false true true = omega arith
flags-short false false true false = omega arith
flags-short false false false true = omega arith
flags-short false false false false = omega arith

-- ---- the words of a call

words-short : (call : Call) → CallFits call → width (call_words call) ≤ longest
unfolding width CallFits
words-short (Init size refs) f = let a = byte-short size f.0 in let b = byte-short refs f.1 in let e : length (chars "init") ≡ 4 = refl in omega arith
words-short GetEmptyPic f = let e : length (chars "get") ≡ 3 = refl in omega arith
words-short (PutPic flags poc layer gap) f =
    let a = word-short poc f.1 in
    let b = byte-short layer f.2 in
    let c = word-short gap f.3 in
    let d = flags-short (is_set (flags % 2)) (is_set (flags / 2 % 2)) (is_set (flags / 4 % 2)) (is_set (flags / 8 % 2)) in
    let e : length (chars "put") ≡ 3 = refl in
    let g : length (chars "layer") ≡ 5 = refl in
    let h : length (chars "gap") ≡ 3 = refl in
    omega arith
words-short OutPic f = let e : length (chars "out") ≡ 3 = refl in omega arith
words-short (RefpInit slice poc layer intra limit) f =
    let a = slice-short slice f.0 in
    let b = word-short poc f.1 in
    let c = byte-short layer f.2 in
    let d = signed-short intra f.3 in
    let l = byte-short limit f.4 in
    let e : length (chars "lists") ≡ 5 = refl in
    let k : length (chars "layer") ≡ 5 = refl in
    let g : length (chars "intra") ≡ 5 = refl in
    let h : length (chars "limit") ≡ 5 = refl in
    omega arith
words-short (PocDerivation length' layer) f =
    let a = byte-short length' f.0 in
    let b = byte-short layer f.1 in
    let e : length (chars "derive") ≡ 6 = refl in
    omega arith

call-short : (call : Call) → CallFits call → length (say_command call) ≤ longest
unfolding say_command
call-short call f = let a = spaced-short (call_words call) in let b = words-short call f in omega arith

pub said-is-asked : SaidIsAsked
unfolding asked
said-is-asked number call fits = rw (le-ltb longest (length (say_command call)) (call-short call fits), said-is-read call fits) refl
