-- The claims about the library's functions on lines, proved.
-- Assumes nothing.
use Rattle.std.specs.Prelude.{Option, Some, None, Result, Ok, Err}
use Prim.Native.Nat.{ℕ, ◌+◌, ◌*◌, ◌/◌, ◌%◌, ◌^◌, ◌<◌, ◌≤◌}
use native.Mathlib.Omega.{arith}
use mathlib.Core.Path.{◌≡◌, refl, sym, ap, ◌∙◌}
use mathlib.Core.Bool.{Bool, true, false, cond}
use mathlib.Core.List.{List}
use lib.Dec.{ltb}
use lib.ListN.{length, drop, length-drop}
use native.Mathlib.Nat.{div-div-eq-div-mul}
use borrow.Author.Tests.{ltb-true, eq-eqb}
use Rattle.seq.proofs.Walks.{lowest-le}
use Rattle.buffer.specs.Buffer.{is_newline, line_end}
use Rattle.def.specs.declared.Refusal.{Refusal}
use Rattle.def.specs.Word.{word}
use Rattle.def.proofs.WordLaws.{word-of-bytes}
use Rattle.line.specs.declared.Reply.{Reply}
use Rattle.reader.specs.declared.BadLine.{BadLine}
use Rattle.reader.specs.Reading.{answer_at, after_line}
use Rattle.writer.specs.Writing.{written}
use Rattle.writer.proofs.Claims.{refused-unwritten}
use Rattle.lent_lines.specs.LentLines.{record_of, record_length, read_out, written_status, written_length, wrote_out}
use Rattle.lent_lines.specs.Claims.{place_in, PlaceShown, StatusTold, LengthTold, LengthShort, RefusedLeaves}
use Rattle.lent_lines.proofs.Sizes.{status-small, length-small}

-- Eight bytes stand for the number that they were made of.
high-low : (n : ℕ) → n < 2 ^ 64 → n / 4294967296 * 4294967296 + n % 4294967296 ≡ n
high-low n h = omega arith

upper : (n : ℕ) → n < 2 ^ 64 →
    word (n / 72057594037927936 % 256) (n / 281474976710656 % 256) (n / 1099511627776 % 256) (n / 4294967296 % 256) ≡ n / 4294967296
upper n h =
    let q : ℕ = n / 4294967296 in
    let e : n / 1099511627776 ≡ q / 256 = sym (div-div-eq-div-mul n 4294967296 256) in
    let f : n / 281474976710656 ≡ q / 65536 = sym (div-div-eq-div-mul n 4294967296 65536) in
    let g : n / 72057594037927936 ≡ q / 16777216 = sym (div-div-eq-div-mul n 4294967296 16777216) in
    rw (e, f, g) (word-of-bytes q (omega arith))

-- What stands above the lower four bytes does not show in them.
module _ (q r : ℕ) where
  second : (4294967296 * q + r) / 256 % 256 ≡ r / 256 % 256
  second = let e : (4294967296 * q + r) / 256 ≡ 16777216 * q + r / 256 = omega arith in rw e (omega arith)

  third : (4294967296 * q + r) / 65536 % 256 ≡ r / 65536 % 256
  third = let e : (4294967296 * q + r) / 65536 ≡ 65536 * q + r / 65536 = omega arith in rw e (omega arith)

  fourth : (4294967296 * q + r) / 16777216 % 256 ≡ r / 16777216 % 256
  fourth = let e : (4294967296 * q + r) / 16777216 ≡ 256 * q + r / 16777216 = omega arith in rw e (omega arith)

  below : r < 2 ^ 32
      → word ((4294967296 * q + r) / 16777216 % 256) ((4294967296 * q + r) / 65536 % 256) ((4294967296 * q + r) / 256 % 256) ((4294967296 * q + r) % 256) ≡ r
  below h = let first : (4294967296 * q + r) % 256 ≡ r % 256 = omega arith in rw (first, second, third, fourth) (word-of-bytes r h)

lower : (n : ℕ) → word (n / 16777216 % 256) (n / 65536 % 256) (n / 256 % 256) (n % 256) ≡ n % 4294967296
lower n =
    let parts : 4294967296 * (n / 4294967296) + n % 4294967296 ≡ n = omega arith in
    ap (λ (k : ℕ). word (k / 16777216 % 256) (k / 65536 % 256) (k / 256 % 256) (k % 256)) (sym parts)
    ∙ below (n / 4294967296) (n % 4294967296) (omega arith)

shown : (r : Option (Result Reply BadLine)) (next : ℕ) → next < 2 ^ 64 → place_in (record_of r next) ≡ next
shown r next h = by r
  where
    place : word (next / 72057594037927936 % 256) (next / 281474976710656 % 256) (next / 1099511627776 % 256) (next / 4294967296 % 256) * 4294967296
        + word (next / 16777216 % 256) (next / 65536 % 256) (next / 256 % 256) (next % 256) ≡ next
    place = rw (upper next h, lower next) (high-low next h)

    by : (r : Option (Result Reply BadLine)) → place_in (record_of r next) ≡ next
    by (Some (Ok reply)) = place
    by (Some (Err bad)) = place
    by None = place

-- The reader stands in the buffer, or where it stood.
next_fits : (lines : List ℕ) (at : ℕ) → length lines < 2 ^ 64 → at < 2 ^ 64 → after_line lines at < 2 ^ 64
unfolding after_line
next_fits lines at h k = by (ltb at (length lines)) (ltb (line_end lines at) (length lines)) refl
  where
    by : (a b : Bool) → ltb (line_end lines at) (length lines) ≡ b → cond a (cond b (line_end lines at + 1) (line_end lines at)) at < 2 ^ 64
    by true true e = let inside = ltb-true (line_end lines at) (length lines) e in omega arith
    by true false e = let low = lowest-le 0 is_newline (drop at lines) in omega (arith, length-drop at lines)
    by false b e = k

pub place-shown : PlaceShown
unfolding read_out
place-shown lines at record_bytes h k e =
    rw (eq-eqb (length record_bytes) record_length e) (shown (answer_at lines at) (after_line lines at) (next_fits lines at h k))

-- A status takes eight bits, so that what stands above it does not show in it, nor it there.
in-low-bits : (n s : ℕ) → s ≤ 20 → (n * 256 + s) % 256 ≡ s
in-low-bits n s h = omega arith

in-high-bits : (n s : ℕ) → s ≤ 20 → (n * 256 + s) / 256 ≡ n
in-high-bits n s h = omega arith

pub status-told : StatusTold
unfolding wrote_out
status-told fields target = let w = (written fields target).given in in-low-bits (written_length w) (written_status w) (status-small w)

pub length-told : LengthTold
unfolding wrote_out
length-told fields target = let w = (written fields target).given in in-high-bits (written_length w) (written_status w) (status-small w)

pub length-short : LengthShort
length-short fields target = rw (length-told fields target) (length-small fields target)

pub refused-leaves : RefusedLeaves
unfolding wrote_out
refused-leaves fields target h = by (written fields target).given refl (rw (status-told fields target) at h)
  where
    by : (w : Result ℕ Refusal) → (written fields target).given ≡ w → 1 ≤ written_status w → (written fields target).target ≡ target
    by (Ok n) e k = absurd (omega arith)
    by (Err why) e k = refused-unwritten fields target why e
