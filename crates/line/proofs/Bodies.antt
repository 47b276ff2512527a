-- The bodies of calls and of answers stand for their records, and the records for their bodies.
-- Assumes nothing.
use Rattle.std.specs.Prelude.{Option, Some, None}
use Prim.Native.Nat.{ℕ, zero, suc, ◌+◌, ◌^◌, ◌<◌, ◌≤◌}
use native.Mathlib.Omega.{arith}
use native.Mathlib.Nat.{add-zero, zero-add, add-suc, suc-add}
use mathlib.Core.Path.{◌≡◌, refl, sym, ap, subst, ◌∙◌}
use mathlib.Core.Bool.{Bool, true, false, cond}
use mathlib.Core.List.{List, [], ◌∷◌, ◌++◌}
use lib.Dec.{eqb}
use lib.ListN.{length}
use borrow.Author.Tests.{ltb-false, le-ltb, eqb-true}
use Rattle.seq.proofs.Tests.{and_left, and_right}
use Rattle.seq.specs.Lists.{entries_from}
use Rattle.def.proofs.WordLaws.{word-of-bytes, bytes-of-word}
use Rattle.line.specs.declared.Call.{Call}
use Rattle.line.specs.declared.Call.TheVariants.{Init, GetEmptyPic, PutPic, OutPic, RefpInit, PocDerivation}
use Rattle.line.specs.declared.Reply.{Reply}
use Rattle.hex_digits.specs.Hex.{word_bytes}
use Rattle.hex_digits.specs.Frame.{AreBytes, byte_at, word_at}
use Rattle.line.specs.Calls.{is_call, bad_flags, lists_in, call_in, call_bytes, call_kind}
use Rattle.line.specs.Answers.{reply, reply_in, reply_bytes, answer_kind}
use Rattle.hex_digits.specs.Claims.{Lawful}
use Rattle.line.specs.Claims.{CallFits, ReplyFits, CallsFaithful, AnswersFaithful}
use Rattle.hex_digits.proofs.Faithful.{byte_fits, lines-faithful}

some_is : {A : Type 0} {a b : A} → Some a ≡ Some b → a ≡ b
some_is e = cc

no-some : {A : Type 0} {a : A} → None ≡ Some a → ⊥
no-some e = let z : ◌≡◌ {A = ℕ} 0 1 = cc in omega arith

-- A list is its places.
places-from : (bs cs : List ℕ) (i n : ℕ) → length bs ≡ n → ((j : ℕ) → byte_at cs (i + j) ≡ byte_at bs j) → bs ≡ entries_from (byte_at cs) i n
unfolding entries_from
places-from [] cs i zero e h = refl
places-from [] cs i (suc n) e h = absurd (omega arith)
places-from (b ∷ bs) cs i zero e h = absurd (omega arith)
places-from (b ∷ bs) cs i (suc n) e h =
    let first : b ≡ byte_at cs i = sym (h zero) ∙ ap (byte_at cs) (add-zero i) in
    let rest = places-from bs cs (suc i) n (let f = e in omega arith) (λ (j : ℕ). ap (byte_at cs) (suc-add i j ∙ sym (add-suc i j)) ∙ h (suc j)) in
    rw (← first, ← rest)

places : (b : List ℕ) (n : ℕ) → length b ≡ n → b ≡ entries_from (byte_at b) 0 n
places b n e = places-from b b 0 n e (λ (j : ℕ). ap (byte_at b) (zero-add j))

module _ (b : List ℕ) (h : AreBytes b) where
  word-bytes : (i j k l : ℕ) → word_bytes (word_at b i j k l) ≡ byte_at b i ∷ byte_at b j ∷ byte_at b k ∷ byte_at b l ∷ []
  word-bytes i j k l = bytes-of-word (byte_at b i) (byte_at b j) (byte_at b k) (byte_at b l) (byte_fits b h i) (byte_fits b h j) (byte_fits b h k) (byte_fits b h l)

  word_fits : (i j k l : ℕ) → word_at b i j k l < 2 ^ 32
  word_fits i j k l =
      let p = byte_fits b h i in
      let q = byte_fits b h j in
      let r = byte_fits b h k in
      let s = byte_fits b h l in
      omega arith

-- ---- answers

module _ (b : List ℕ) (h : AreBytes b) (r : Reply) where
  reply-found : (t : Bool) → eqb (length b) 7 ≡ t → cond t (Some (reply (byte_at b 0) (byte_at b 1) (byte_at b 2) (word_at b 3 4 5 6))) None ≡ Some r
      → (length b ≡ 7) × (reply (byte_at b 0) (byte_at b 1) (byte_at b 2) (word_at b 3 4 5 6) ≡ r)
  reply-found true e f = (eqb-true (length b) 7 e, some_is f)
  reply-found false e f = absurd (no-some f)

  reply-one : reply_in b ≡ Some r → b ≡ reply_bytes r
  unfolding entries_from
  reply-one e =
      let f = reply-found (eqb (length b) 7) refl e in
      places b 7 f.0 ∙ sym (rw (← f.1, word-bytes b h 3 4 5 6))

  reply-fits : reply_in b ≡ Some r → ReplyFits r
  reply-fits e =
      let f = reply-found (eqb (length b) 7) refl e in
      subst ReplyFits f.1 (record { call = byte_fits b h 0; status = byte_fits b h 1; buf = byte_fits b h 2; value = word_fits b h 3 4 5 6 })

pub answers-lawful : Lawful answer_kind ReplyFits
unfolding answer_kind AreBytes
answers-lawful =
    record {
      bytes = λ r f. (f.call, (f.status, (f.buf, (omega arith, (omega arith, (omega arith, (omega arith, tt)))))));
      reads = λ r f. rw (word-of-bytes r.value f.value);
      one = λ b r h. reply-one b h r;
      fits = λ b r h. reply-fits b h r;
    }

-- ---- calls

-- What a body is, where it is a call.
data CallBody (b : List ℕ) : Option Call → Type 0 where
  init : byte_at b 0 ≡ 1 → length b ≡ 3 → CallBody b (Some (Init (byte_at b 1) (byte_at b 2)))
  get : byte_at b 0 ≡ 2 → length b ≡ 1 → CallBody b (Some GetEmptyPic)
  put : byte_at b 0 ≡ 3 → length b ≡ 11 → byte_at b 1 ≤ 15 → CallBody b (Some (PutPic (byte_at b 1) (word_at b 2 3 4 5) (byte_at b 6) (word_at b 7 8 9 10)))
  out : byte_at b 0 ≡ 4 → length b ≡ 1 → CallBody b (Some OutPic)
  lists : byte_at b 0 ≡ 5 → length b ≡ 12 → CallBody b (Some (lists_in b))
  derive : byte_at b 0 ≡ 6 → length b ≡ 3 → CallBody b (Some (PocDerivation (byte_at b 1) (byte_at b 2)))
  nothing : CallBody b None

body_of : (b : List ℕ) → CallBody b (call_in b)
unfolding call_in
body_of b =
    either (is_call 1 3 b) (λ e. init (first 1 3 e) (size 1 3 e))
    (either (is_call 2 1 b) (λ e. get (first 2 1 e) (size 2 1 e))
    (either (is_call 3 11 b) (λ e. flags (first 3 11 e) (size 3 11 e) (bad_flags (byte_at b 1)) refl)
    (either (is_call 4 1 b) (λ e. out (first 4 1 e) (size 4 1 e))
    (either (is_call 5 12 b) (λ e. lists (first 5 12 e) (size 5 12 e))
    (either (is_call 6 3 b) (λ e. derive (first 6 3 e) (size 6 3 e)) nothing)))))
  where
    first : (call n : ℕ) → is_call call n b ≡ true → byte_at b 0 ≡ call
    first call n e = eqb-true (byte_at b 0) call (and_left (eqb (byte_at b 0) call) (eqb (length b) n) e)

    size : (call n : ℕ) → is_call call n b ≡ true → length b ≡ n
    size call n e = eqb-true (length b) n (and_right (eqb (byte_at b 0) call) (eqb (length b) n) e)

    either : (t : Bool) {x y : Option Call} → (t ≡ true → CallBody b x) → CallBody b y → CallBody b (cond t x y)
    either true f g = f refl
    either false f g = g

    flags : byte_at b 0 ≡ 3 → length b ≡ 11 → (t : Bool) → bad_flags (byte_at b 1) ≡ t
        → CallBody b (cond t None (Some (PutPic (byte_at b 1) (word_at b 2 3 4 5) (byte_at b 6) (word_at b 7 8 9 10))))
    flags p q true e = nothing
    flags p q false e = put p q (ltb-false 15 (byte_at b 1) e)

module _ (b : List ℕ) (h : AreBytes b) (call : Call) where
  -- the two numbers of a put and of a list call
  words : (first : ℕ) (rest : List ℕ)
      → first ∷ byte_at b 1 ∷ byte_at b 2 ∷ byte_at b 3 ∷ byte_at b 4 ∷ byte_at b 5 ∷ byte_at b 6 ∷ byte_at b 7 ∷ byte_at b 8 ∷ byte_at b 9 ∷ byte_at b 10 ∷ rest
      ≡ first ∷ byte_at b 1 ∷ (word_bytes (word_at b 2 3 4 5) ++ (byte_at b 6 ∷ (word_bytes (word_at b 7 8 9 10) ++ rest)))
  words first rest =
      ap (λ (l : List ℕ). first ∷ byte_at b 1 ∷ byte_at b 2 ∷ byte_at b 3 ∷ byte_at b 4 ∷ byte_at b 5 ∷ byte_at b 6 ∷ (l ++ rest)) (sym (word-bytes b h 7 8 9 10))
      ∙ ap (λ (l : List ℕ). first ∷ byte_at b 1 ∷ (l ++ (byte_at b 6 ∷ (word_bytes (word_at b 7 8 9 10) ++ rest)))) (sym (word-bytes b h 2 3 4 5))

  call-one : {o : Option Call} → CallBody b o → o ≡ Some call → b ≡ call_bytes call
  unfolding entries_from
  call-one (init p n) e = places b 3 n ∙ rw p (ap call_bytes (some_is e))
  call-one (get p n) e = places b 1 n ∙ rw p (ap call_bytes (some_is e))
  call-one (put p n f) e = places b 11 n ∙ rw p (words 3 [] ∙ ap call_bytes (some_is e))
  call-one (out p n) e = places b 1 n ∙ rw p (ap call_bytes (some_is e))
  call-one (lists p n) e = places b 12 n ∙ rw p (words 5 (byte_at b 11 ∷ []) ∙ ap call_bytes (some_is e))
  call-one (derive p n) e = places b 3 n ∙ rw p (ap call_bytes (some_is e))
  call-one nothing e = absurd (no-some e)

  call_fits : {o : Option Call} → CallBody b o → o ≡ Some call → CallFits call
  unfolding CallFits
  call_fits (init p n) e = subst CallFits (some_is e) (byte_fits b h 1, byte_fits b h 2)
  call_fits (get p n) e = subst CallFits (some_is e) tt
  call_fits (put p n f) e = subst CallFits (some_is e) (f, word_fits b h 2 3 4 5, byte_fits b h 6, word_fits b h 7 8 9 10)
  call_fits (out p n) e = subst CallFits (some_is e) tt
  call_fits (lists p n) e = subst CallFits (some_is e) (byte_fits b h 1, word_fits b h 2 3 4 5, byte_fits b h 6, word_fits b h 7 8 9 10, byte_fits b h 11)
  call_fits (derive p n) e = subst CallFits (some_is e) (byte_fits b h 1, byte_fits b h 2)
  call_fits nothing e = absurd (no-some e)

call-bytes : (call : Call) → CallFits call → AreBytes (call_bytes call)
unfolding CallFits AreBytes
call-bytes (Init size refs) f = (omega arith, (f.0, (f.1, tt)))
call-bytes GetEmptyPic f = (omega arith, tt)
call-bytes (PutPic flags poc layer gap) f = (
  omega arith,
  (omega (arith, f.0), (omega arith, (omega arith, (omega arith, (omega arith, (f.2, (omega arith, (omega arith, (omega arith, (omega arith, tt)))))))))),
)
call-bytes OutPic f = (omega arith, tt)
call-bytes (RefpInit slice poc layer intra limit) f = (
  omega arith,
  (f.0, (omega arith, (omega arith, (omega arith, (omega arith, (f.2, (omega arith, (omega arith, (omega arith, (omega arith, (f.4, tt))))))))))),
)
call-bytes (PocDerivation length layer) f = (omega arith, (f.0, (f.1, tt)))

call-reads : (call : Call) → CallFits call → call_in (call_bytes call) ≡ Some call
unfolding CallFits call_in
call-reads (Init size refs) f = refl
call-reads GetEmptyPic f = refl
call-reads (PutPic flags poc layer gap) f = rw (le-ltb 15 flags f.0, word-of-bytes poc f.1, word-of-bytes gap f.3)
call-reads OutPic f = refl
call-reads (RefpInit slice poc layer intra limit) f = rw (word-of-bytes poc f.1, word-of-bytes intra f.3)
call-reads (PocDerivation length layer) f = refl

pub calls-lawful : Lawful call_kind CallFits
unfolding call_kind
calls-lawful =
    record {
      bytes = call-bytes;
      reads = call-reads;
      one = λ b call h. call-one b h call (body_of b);
      fits = λ b call h. call_fits b h call (body_of b);
    }

pub calls-faithful : CallsFaithful
calls-faithful = lines-faithful Call call_kind CallFits calls-lawful

pub answers-faithful : AnswersFaithful
answers-faithful = lines-faithful Reply answer_kind ReplyFits answers-lawful
