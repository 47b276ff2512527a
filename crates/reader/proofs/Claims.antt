-- The claims about the reader, proved: step by step it gives the lines of the buffer, since what stands up to the next newline is the next line.
-- Assumes nothing.
use Rattle.std.specs.Prelude.{Some, None, Ok}
use Prim.Native.Nat.{ℕ, zero, suc, ◌+◌, ◌<◌, ◌≤◌}
use native.Mathlib.Omega.{arith}
use mathlib.Core.Path.{◌≡◌, refl, sym, ap, ◌∙◌}
use mathlib.Core.Bool.{Bool, true, false}
use mathlib.Core.List.{List, [], ◌∷◌, ◌++◌, map, flat_map}
use lib.Dec.{ltb}
use lib.ListN.{length, drop, length-drop, length-append, drop_of_length-le}
use lib.Seq.{drop-drop, drop_at, take_at, append_snoc, length-take-le}
use borrow.Author.Tests.{ltb-true, ltb-false, lt-ltb, le-ltb}
use Rattle.seq.specs.Lists.{all_of, lowest}
use Rattle.seq.proofs.Walks.{lowest-le}
use Rattle.buffer.specs.Buffer.{newline, is_newline, lines_from, line_end, line_at}
use Rattle.buffer.proofs.Lines.{first-line}
use Rattle.hex_digits.specs.Hex.{digits_of, bytes_of, sum8}
use Rattle.hex_digits.specs.Frame.{body_of}
use Rattle.framing.proofs.Standing.{framed-end}
use Rattle.line.specs.declared.Reply.{Reply}
use Rattle.line.specs.Answers.{reply_bytes, answer_kind, answer_digits, answer_line}
use Rattle.line.specs.Claims.{ReplyFits}
use Rattle.line.proofs.Bodies.{answers-lawful, answers-faithful}
use Rattle.reader.specs.Reading.{read_line_as, answer_at, after_line, reads_from, reads_of}
use Rattle.reader.specs.Claims.{ReadsEveryLine, ReadsFromPlace, AllFit, PrintedIsRead, StaysAtEnd, LongerIsBad, ThenEmptyLine}

pub stays-at-end : StaysAtEnd
unfolding answer_at after_line
stays-at-end buffer at h = record { no_more = rw (le-ltb at (length buffer) h); same_place = rw (le-ltb at (length buffer) h) }

pub longer-is-bad : LongerIsBad
unfolding answer_at answer_digits digits_of bytes_of sum8 body_of answer_kind lowest all_of
longer-is-bad = (refl, refl)

pub then-empty-line : ThenEmptyLine
unfolding lines_from reads_of answer_line answer_digits digits_of bytes_of sum8 body_of answer_kind all_of
then-empty-line = refl

module _ (buffer : List ℕ) where
  none_left : (at : ℕ) → length buffer ≤ at → (place : ℕ) → reads_of place (lines_from [] (drop at buffer)) ≡ []
  unfolding lines_from reads_of
  none_left at h place = rw (drop_of_length-le buffer {i = at} h)

  -- What the reader has still to give after n readings are what the lines from there on say, if it is so after one line more.
  one_more : (n at : ℕ) → ((at : ℕ) → at ≤ length buffer → length buffer ≤ at + n → reads_from n buffer at ≡ reads_of at (lines_from [] (drop at buffer)))
      → at ≤ length buffer → length buffer ≤ at + suc n → reads_from (suc n) buffer at ≡ reads_of at (lines_from [] (drop at buffer))
  unfolding reads_from reads_of answer_at after_line
  one_more n at again h k = by (ltb at (length buffer)) refl
    where
      rest : at < length buffer
          → reads_from n buffer (after_line buffer at)
          ≡ reads_of (at + length (line_at buffer at) + 1) (lines_from [] (drop (suc (lowest is_newline (drop at buffer))) (drop at buffer)))
      rest l = go (ltb (line_end buffer at) (length buffer)) refl
        where
          wide : length (line_at buffer at) ≡ lowest is_newline (drop at buffer)
          wide = length-take-le (lowest is_newline (drop at buffer)) (drop at buffer) (lowest-le 0 is_newline (drop at buffer))

          go : (b : Bool) → ltb (line_end buffer at) (length buffer) ≡ b
              → reads_from n buffer (after_line buffer at)
              ≡ reads_of (at + length (line_at buffer at) + 1) (lines_from [] (drop (suc (lowest is_newline (drop at buffer))) (drop at buffer)))
          go true e =
              let inside = ltb-true (line_end buffer at) (length buffer) e in
              let next : after_line buffer at ≡ line_end buffer at + 1 = rw (lt-ltb at (length buffer) l, e) in
              let one : at + suc (lowest is_newline (drop at buffer)) ≡ line_end buffer at + 1 = omega arith in
              ap (reads_from n buffer) next
              ∙ again (line_end buffer at + 1) (omega arith) (omega arith)
              ∙ sym (ap (λ (m : ℕ). reads_of (at + m + 1) (lines_from [] (drop (suc (lowest is_newline (drop at buffer))) (drop at buffer)))) wide
              ∙ ap (λ (cs : List ℕ). reads_of (line_end buffer at + 1) (lines_from [] cs))
              (drop-drop (suc (lowest is_newline (drop at buffer))) at buffer ∙ ap (λ (i : ℕ). drop i buffer) one))
          go false e =
              let outside = ltb-false (line_end buffer at) (length buffer) e in
              let d = length-drop at buffer in
              let m = lowest-le 0 is_newline (drop at buffer) in
              let next : after_line buffer at ≡ line_end buffer at = rw (lt-ltb at (length buffer) l, e) in
              ap (reads_from n buffer) next
              ∙ again (line_end buffer at) (omega arith) (omega arith)
              ∙ none_left (line_end buffer at) outside (line_end buffer at)
              ∙ sym
              (ap (λ (cs : List ℕ). reads_of (at + length (line_at buffer at) + 1) (lines_from [] cs))
              (drop-drop (suc (lowest is_newline (drop at buffer))) at buffer)
              ∙ none_left (at + suc (lowest is_newline (drop at buffer))) (omega arith) (at + length (line_at buffer at) + 1))

      by : (b : Bool) → ltb at (length buffer) ≡ b → reads_from (suc n) buffer at ≡ reads_of at (lines_from [] (drop at buffer))
      by false e =
          let here : answer_at buffer at ≡ None = rw e in
          rw here (sym (none_left at (ltb-false at (length buffer) e) at))
      by true e =
          let l = ltb-true at (length buffer) e in
          let here : answer_at buffer at ≡ Some (read_line_as at (line_at buffer at)) = rw e in
          rw (
            here,
            rest l,
          ) (sym (ap (reads_of at) (first-line [] (drop at buffer) (omega (arith, length-drop at buffer)))))

  from_place : (n at : ℕ) → at ≤ length buffer → length buffer ≤ at + n → reads_from n buffer at ≡ reads_of at (lines_from [] (drop at buffer))
  unfolding reads_from
  from_place zero at h k = sym (none_left at (omega arith) at)
  from_place (suc n) at h k = one_more n at (from_place n) h k

pub reads-from-place : ReadsFromPlace
reads-from-place = from_place

pub reads-every-line : ReadsEveryLine
reads-every-line buffer n h = from_place buffer n 0 (omega arith) (omega arith)

-- ---- written answers

-- The line of an answer, and then the lines behind it.
answer-first : (r : Reply) (rest : List ℕ) → ReplyFits r → lines_from [] (answer_line r ++ rest) ≡ answer_digits r ∷ lines_from [] rest
unfolding answer_digits answer_line answer_kind
answer-first r rest f =
    let ds = answer_digits r in
    let cs = ds ++ (newline ∷ rest) in
    let low : lowest is_newline cs ≡ length ds = framed-end (reply_bytes r) rest (answers-lawful.bytes r f) in
    let long = length-append ds (newline ∷ rest) in
    let behind : drop (suc (length ds)) cs ≡ rest =
    ap (drop (suc (length ds))) (sym (append_snoc ds newline rest))
    ∙ drop_at (ds ++ (newline ∷ [])) rest (suc (length ds)) (omega (arith, length-append ds (newline ∷ []))) in
    ap (lines_from []) (append_snoc ds newline rest)
    ∙ first-line [] cs (omega arith)
    ∙ rw (low, take_at ds (newline ∷ rest) (length ds) refl, behind)

written-lines : (rs : List Reply) → AllFit rs → lines_from [] (flat_map answer_line rs) ≡ map answer_digits rs
unfolding AllFit flat_map lines_from
written-lines [] f = refl
written-lines (r ∷ rs) f = rw (written-lines rs f.1) at (answer-first r (flat_map answer_line rs) f.0)

digits-read : (at : ℕ) (r : Reply) → ReplyFits r → read_line_as at (answer_digits r) ≡ Ok r
unfolding answer_digits answer_kind
digits-read at r f = rw (answers-faithful.reads_back r f)

read_back : (rs : List Reply) (at : ℕ) → AllFit rs → reads_of at (map answer_digits rs) ≡ map Ok rs
unfolding AllFit reads_of
read_back [] at f = refl
read_back (r ∷ rs) at f = rw (digits-read at r f.0, read_back rs (at + length (answer_digits r) + 1) f.1)

pub printed-is-read : PrintedIsRead
printed-is-read rs n f h = reads-every-line (flat_map answer_line rs) n h ∙ ap (reads_of 0) (written-lines rs f) ∙ read_back rs 0 f
