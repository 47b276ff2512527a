-- Printing and reading agree, proved: each kind of command word by word.
-- Assumes nothing.
use Prim.Native.Nat.{ℕ, ◌+◌, ◌-◌, ◌*◌, ◌/◌, ◌%◌, ◌^◌, ◌≤◌, ◌<◌}
use native.Mathlib.Nat.{div-add-mod, div-div-eq-div-mul}
use native.Mathlib.Omega.{arith}
use mathlib.Core.Path.{◌≡◌, refl, sym, ap, ◌∙◌}
use mathlib.Core.Bool.{Bool, true, false, cond}
use mathlib.Core.Logic.{⊎_elim}
use mathlib.Core.List.{List, [], ◌∷◌}
use Rattle.std.specs.Prelude.{Option, None, Some, Ok}
use lib.Dec.{ltb, eqb}
use borrow.Author.Tests.{lt-ltb, le-ltb, eqb-true, eqb-false}
use Rattle.seq.specs.Lists.{all_of}
use Rattle.seq.proofs.Tests.{lt-or-ge}
use Rattle.line.specs.declared.Call.{Call}
use Rattle.line.specs.declared.Call.TheVariants.{Init, GetEmptyPic, PutPic, OutPic, RefpInit, PocDerivation}
use Rattle.line.specs.Claims.{CallFits}
use Rattle.phrases.specs.Phrases.{chars, decimal}
use Rattle.commands.specs.declared.draft.Draft.{Draft}
use Rattle.commands.specs.declared.draft.PutParts.{PutParts}
use Rattle.commands.specs.declared.draft.ListParts.{ListParts}
use Rattle.commands.specs.Words.{words_from}
use Rattle.commands.specs.Numbers.{number_to, signed_number}
use Rattle.commands.specs.Drafts.{put_of, lists_of, slice_word, next, bit, finished}
use Rattle.commands.specs.Commands.{and_then, step_over, read_command}
use Rattle.spelling.specs.Spelling.{signed_decimal, slice_name, flag_names, is_set, flag_words, call_words, spaced, say_command}
use Rattle.spelling.specs.Claims.{SaidIsRead, ShortForms}
use Rattle.spelling.proofs.Digits.{read-decimal, decimal-read, no-name, positive-read, negative-read}
use Rattle.spelling.proofs.Plain.{is_plain, Plain, AllPlain, none, more, words-spaced, plain-decimal}

-- A word that is written out.
spelled : {c : ℕ} {cs : List ℕ} → all_of is_plain (c ∷ cs) ≡ true → Plain (c ∷ cs)
spelled {c} {cs} e = record { first = c; rest = cs; parts = refl; plain = e }

read-words : (ws : List (List ℕ)) → AllPlain ws → read_command (spaced ws) ≡ and_then (step_over Draft.Command ws) finished
unfolding read_command
read-words ws p = rw (words-spaced ws p)

-- ---- the parts of a put and of a list call

abbrev put : ℕ → Option ℕ → Option ℕ → Bool → Bool → Bool → Bool → PutParts
put poc layer gap idr out reference missing =
    record { poc = poc; layer = layer; gap = gap; idr = idr; out = out; reference = reference; none = missing }

abbrev lists : ℕ → ℕ → Option ℕ → Option ℕ → Option ℕ → ListParts
lists slice poc layer intra limit = record { slice = slice; poc = poc; layer = layer; intra = intra; limit = limit }

abbrev flag_sum : Bool → Bool → Bool → Bool → ℕ
flag_sum a b c d = bit a + 2 * bit b + 4 * bit c + 8 * bit d

put-flags : (a b c d : Bool) (poc layer gap : ℕ)
    → and_then (step_over (Draft.PutPart (put poc (Some layer) (Some gap) false false false false)) (flag_names a b c d)) finished
    ≡ Ok (Some (PutPic (flag_sum a b c d) poc layer gap))
unfolding step_over next
put-flags false false false false poc layer gap = refl
put-flags false false false true poc layer gap = refl
put-flags false false true false poc layer gap = refl
put-flags false false true true poc layer gap = refl
put-flags false true false false poc layer gap = refl
put-flags false true false true poc layer gap = refl
put-flags false true true false poc layer gap = refl
put-flags false true true true poc layer gap = refl
put-flags true false false false poc layer gap = refl
put-flags true false false true poc layer gap = refl
put-flags true false true false poc layer gap = refl
put-flags true false true true poc layer gap = refl
put-flags true true false false poc layer gap = refl
put-flags true true false true poc layer gap = refl
put-flags true true true false poc layer gap = refl
put-flags true true true true poc layer gap = refl

bit_is : (x : ℕ) → x < 2 → bit (is_set x) ≡ x
bit_is x h = by (eqb x 1) refl
  where
    by : (b : Bool) → eqb x 1 ≡ b → bit b ≡ x
    by true e = sym (eqb-true x 1 e)
    by false e = let other = eqb-false x 1 e in omega arith

-- the four equations that take the bits off, with other names for the quotients
sum-of-bits : (n q r s t a b c d : ℕ) → 2 * q + a ≡ n → 2 * r + b ≡ q → 2 * s + c ≡ r → 2 * t + d ≡ s → n ≤ 15 → a + 2 * b + 4 * c + 8 * d ≡ n
sum-of-bits n q r s t a b c d e f g h l = omega arith

flag-sum : (flags : ℕ) → flags ≤ 15 → flag_sum (is_set (flags % 2)) (is_set (flags / 2 % 2)) (is_set (flags / 4 % 2)) (is_set (flags / 8 % 2)) ≡ flags
flag-sum n h =
    rw (bit_is (n % 2) (omega arith), bit_is (n / 2 % 2) (omega arith), bit_is (n / 4 % 2) (omega arith), bit_is (n / 8 % 2) (omega arith))
    (sum-of-bits n (n / 2) (n / 4) (n / 8) (n / 8 / 2) (n % 2) (n / 2 % 2) (n / 4 % 2) (n / 8 % 2)
    (div-add-mod n 2)
    (ap (λ (k : ℕ). 2 * k + n / 2 % 2) (sym (div-div-eq-div-mul n 2 2)) ∙ div-add-mod (n / 2) 2)
    (ap (λ (k : ℕ). 2 * k + n / 4 % 2) (sym (div-div-eq-div-mul n 4 2)) ∙ div-add-mod (n / 4) 2)
    (div-add-mod (n / 8) 2)
    h)

-- ---- slices and signed numbers

plain-byte : (n : ℕ) → n < 256 → Plain (decimal n)
plain-byte n h = plain-decimal n (omega arith)

plain-word : (n : ℕ) → n < 2 ^ 32 → Plain (decimal n)
plain-word n h = plain-decimal n (omega arith)

plain-slice : (slice : ℕ) → slice < 256 → Plain (slice_name slice)
unfolding all_of
plain-slice slice h = by (eqb slice 1) (eqb slice 2) (eqb slice 3)
  where
    by : (a b c : Bool) → Plain (cond a (chars "I") (cond b (chars "P") (cond c (chars "B") (decimal slice))))
    by true b c = spelled refl
    by false true c = spelled refl
    by false false true = spelled refl
    by false false false = plain-byte slice h

number-slice : (slice : ℕ) → slice < 256 → slice_word (decimal slice) ≡ Some slice
number-slice slice h =
    let d = (read-decimal slice (omega arith)).digits in
    rw (
      no-name "I" (decimal slice) d refl,
      no-name "P" (decimal slice) d refl,
      no-name "B" (decimal slice) d refl,
      decimal-read slice 255 (omega arith) (omega arith),
    )

slice-read : (slice : ℕ) → slice < 256 → slice_word (slice_name slice) ≡ Some slice
slice-read slice h = by (eqb slice 1) refl (eqb slice 2) refl (eqb slice 3) refl
  where
    by : (a : Bool) → eqb slice 1 ≡ a → (b : Bool) → eqb slice 2 ≡ b → (c : Bool) → eqb slice 3 ≡ c
        → slice_word (cond a (chars "I") (cond b (chars "P") (cond c (chars "B") (decimal slice)))) ≡ Some slice
    by true e b f c g = rw (eqb-true slice 1 e)
    by false e true f c g = rw (eqb-true slice 2 f)
    by false e false f true g = rw (eqb-true slice 3 g)
    by false e false f false g = number-slice slice h

signed-plain : (n : ℕ) → n < 2 ^ 32 → Plain (signed_decimal n)
unfolding all_of
signed-plain n h = by (ltb n 2147483648)
  where
    minus : (m : ℕ) → m < 2 ^ 64 → Plain (45 ∷ decimal m)
    minus m l = record { first = 45; rest = decimal m; parts = refl; plain = (plain-decimal m l).plain }

    by : (b : Bool) → Plain (cond b (decimal n) (45 ∷ decimal (4294967296 - n)))
    by true = plain-word n h
    by false = minus (4294967296 - n) (omega arith)

-- A number with its sign is read as its two's complement.
signed-read : (n : ℕ) → n < 2 ^ 32 → signed_number (signed_decimal n) ≡ Some n
signed-read n h = ⊎_elim (λ (l : n < 2147483648). low l) (λ (l : 2147483648 ≤ n). high l) (lt-or-ge n 2147483648)
  where
    low : n < 2147483648 → signed_number (signed_decimal n) ≡ Some n
    low l = rw (lt-ltb n 2147483648 l) (positive-read n l)

    high : 2147483648 ≤ n → signed_number (signed_decimal n) ≡ Some n
    high l =
        let back : 4294967296 - (4294967296 - n) ≡ n = omega arith in
        rw (le-ltb n 2147483648 l) (rw back at (negative-read (4294967296 - n) (omega arith) (omega arith)))

-- ---- all of them

byte-read : (n : ℕ) → n < 256 → number_to 255 (decimal n) ≡ Some n
byte-read n h = decimal-read n 255 (omega arith) (omega arith)

word-read : (n : ℕ) → n < 2 ^ 32 → number_to 4294967295 (decimal n) ≡ Some n
word-read n h = decimal-read n 4294967295 h (omega arith)

plain-flags : (a b c d : Bool) → AllPlain (flag_names a b c d)
unfolding all_of
plain-flags false false false false = none
plain-flags false false false true = more (spelled refl) (none)
plain-flags false false true false = more (spelled refl) (none)
plain-flags false false true true = more (spelled refl) (more (spelled refl) (none))
plain-flags false true false false = more (spelled refl) (none)
plain-flags false true false true = more (spelled refl) (more (spelled refl) (none))
plain-flags false true true false = more (spelled refl) (more (spelled refl) (none))
plain-flags false true true true = more (spelled refl) (more (spelled refl) (more (spelled refl) (none)))
plain-flags true false false false = more (spelled refl) (none)
plain-flags true false false true = more (spelled refl) (more (spelled refl) (none))
plain-flags true false true false = more (spelled refl) (more (spelled refl) (none))
plain-flags true false true true = more (spelled refl) (more (spelled refl) (more (spelled refl) (none)))
plain-flags true true false false = more (spelled refl) (more (spelled refl) (none))
plain-flags true true false true = more (spelled refl) (more (spelled refl) (more (spelled refl) (none)))
plain-flags true true true false = more (spelled refl) (more (spelled refl) (more (spelled refl) (none)))
plain-flags true true true true = more (spelled refl) (more (spelled refl) (more (spelled refl) (more (spelled refl) (none))))

-- A word that fits takes its draft to the next.
stepped : (d e : Draft) (w : List ℕ) (ws : List (List ℕ)) → next d w ≡ Some e → step_over d (w ∷ ws) ≡ step_over e ws
unfolding step_over
stepped d e w ws p = rw p

init-over : (size refs : ℕ) → CallFits (Init size refs) → step_over Draft.Command (call_words (Init size refs)) ≡ Ok (Draft.InitEnd size refs)
unfolding CallFits next step_over
init-over size refs f =
    stepped Draft.Init (Draft.InitRefs size) (decimal size) (decimal refs ∷ []) (rw (byte-read size f.0))
    ∙ stepped (Draft.InitRefs size) (Draft.InitEnd size refs) (decimal refs) [] (rw (byte-read refs f.1))

derive-over : (length layer : ℕ) → CallFits (PocDerivation length layer)
    → step_over Draft.Command (call_words (PocDerivation length layer)) ≡ Ok (Draft.DeriveEnd length layer)
unfolding CallFits next step_over
derive-over length layer f =
    stepped Draft.Derive (Draft.DeriveLayer length) (decimal length) (decimal layer ∷ []) (rw (byte-read length f.0))
    ∙ stepped (Draft.DeriveLayer length) (Draft.DeriveEnd length layer) (decimal layer) [] (rw (byte-read layer f.1))

put-number : (poc : ℕ) → poc < 2 ^ 32 → next Draft.Put (decimal poc) ≡ Some (Draft.PutPart (put_of poc false))
unfolding next
put-number poc h = rw (no-name "none" (decimal poc) (read-decimal poc h).digits refl, word-read poc h)

put-over : (flags poc layer gap : ℕ) → CallFits (PutPic flags poc layer gap)
    → step_over Draft.Command (call_words (PutPic flags poc layer gap))
    ≡ step_over (Draft.PutPart (put poc (Some layer) (Some gap) false false false false)) (flag_words flags)
unfolding CallFits next step_over
put-over flags poc layer gap f =
    stepped Draft.Put (Draft.PutPart (put_of poc false)) (decimal poc)
    (chars "layer" ∷ decimal layer ∷ chars "gap" ∷ decimal gap ∷ flag_words flags) (put-number poc f.1)
    ∙ stepped (Draft.PutLayer (put_of poc false)) (Draft.PutPart (put poc (Some layer) None false false false false)) (decimal layer)
    (chars "gap" ∷ decimal gap ∷ flag_words flags) (rw (byte-read layer f.2))
    ∙ stepped (Draft.PutGap (put poc (Some layer) None false false false false)) (Draft.PutPart (put poc (Some layer) (Some gap) false false false false))
    (decimal gap) (flag_words flags) (rw (word-read gap f.3))

lists-over : (slice poc layer intra limit : ℕ) → CallFits (RefpInit slice poc layer intra limit)
    → step_over Draft.Command (call_words (RefpInit slice poc layer intra limit))
    ≡ Ok (Draft.ListPart (lists slice poc (Some layer) (Some intra) (Some limit)))
unfolding CallFits next step_over
lists-over slice poc layer intra limit f =
    stepped Draft.Lists (Draft.ListsNumber slice) (slice_name slice)
    (decimal poc ∷ chars "layer" ∷ decimal layer ∷ chars "intra" ∷ signed_decimal intra ∷ chars "limit" ∷ decimal limit ∷ [])
    (rw (slice-read slice f.0))
    ∙ stepped (Draft.ListsNumber slice) (Draft.ListPart (lists_of slice poc)) (decimal poc)
    (chars "layer" ∷ decimal layer ∷ chars "intra" ∷ signed_decimal intra ∷ chars "limit" ∷ decimal limit ∷ []) (rw (word-read poc f.1))
    ∙ stepped (Draft.ListLayer (lists_of slice poc)) (Draft.ListPart (lists slice poc (Some layer) None None)) (decimal layer)
    (chars "intra" ∷ signed_decimal intra ∷ chars "limit" ∷ decimal limit ∷ []) (rw (byte-read layer f.2))
    ∙ stepped (Draft.ListIntra (lists slice poc (Some layer) None None)) (Draft.ListPart (lists slice poc (Some layer) (Some intra) None))
    (signed_decimal intra) (chars "limit" ∷ decimal limit ∷ []) (rw (signed-read intra f.3))
    ∙ stepped (Draft.ListLimit (lists slice poc (Some layer) (Some intra) None)) (Draft.ListPart (lists slice poc (Some layer) (Some intra) (Some limit)))
    (decimal limit) [] (rw (byte-read limit f.4))

-- ---- each kind of command

read_as : (call : Call) → AllPlain (call_words call) → and_then (step_over Draft.Command (call_words call)) finished ≡ Ok (Some call)
    → read_command (say_command call) ≡ Ok (Some call)
unfolding say_command
read_as call p e = read-words (call_words call) p ∙ e

get-out : (and_then (step_over Draft.Command (call_words GetEmptyPic)) finished ≡ Ok (Some GetEmptyPic))
    × (and_then (step_over Draft.Command (call_words OutPic)) finished ≡ Ok (Some OutPic))
unfolding step_over next
get-out = (refl, refl)

put-finished : (flags poc layer gap : ℕ) → flags ≤ 15
    → and_then (step_over (Draft.PutPart (put poc (Some layer) (Some gap) false false false false)) (flag_words flags)) finished
    ≡ Ok (Some (PutPic flags poc layer gap))
put-finished flags poc layer gap h =
    put-flags (is_set (flags % 2)) (is_set (flags / 2 % 2)) (is_set (flags / 4 % 2)) (is_set (flags / 8 % 2)) poc layer gap
    ∙ ap (λ (n : ℕ). Ok (Some (PutPic n poc layer gap))) (flag-sum flags h)

pub said-is-read : SaidIsRead
unfolding step_over CallFits all_of
said-is-read (Init size refs) f =
    read_as (Init size refs) (more (spelled refl) (more (plain-byte size f.0) (more (plain-byte refs f.1) none))) (ap (λ d. and_then d finished) (init-over size refs f))
said-is-read GetEmptyPic f = read_as GetEmptyPic (more (spelled refl) none) get-out.0
said-is-read (PutPic flags poc layer gap) f =
    let names = plain-flags (is_set (flags % 2)) (is_set (flags / 2 % 2)) (is_set (flags / 4 % 2)) (is_set (flags / 8 % 2)) in
    read_as (PutPic flags poc layer gap)
    (more (spelled refl) (more (plain-word poc f.1) (more (spelled refl) (more (plain-byte layer f.2) (more (spelled refl) (more (plain-word gap f.3) names))))))
    (ap (λ d. and_then d finished) (put-over flags poc layer gap f) ∙ put-finished flags poc layer gap f.0)
said-is-read OutPic f = read_as OutPic (more (spelled refl) none) get-out.1
said-is-read (RefpInit slice poc layer intra limit) f =
    read_as (RefpInit slice poc layer intra limit)
    (more (spelled refl)
    (more (plain-slice slice f.0) (more (plain-word poc f.1) (more (spelled refl) (more (plain-byte layer f.2)
    (more (spelled refl) (more (signed-plain intra f.3) (more (spelled refl) (more (plain-byte limit f.4) none)))))))))
    (ap (λ d. and_then d finished) (lists-over slice poc layer intra limit f))
said-is-read (PocDerivation length layer) f =
    read_as (PocDerivation length layer) (more (spelled refl) (more (plain-byte length f.0) (more (plain-byte layer f.1) none)))
    (ap (λ d. and_then d finished) (derive-over length layer f))

pub short-forms : ShortForms
unfolding read_command step_over next words_from
short-forms = record { usual_put = refl; no_picture = refl; usual_lists = refl; comment = refl; empty = refl }
