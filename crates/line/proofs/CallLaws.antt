-- A line of another length than a call line is bad; one that is longer than every call line: so its first 27 characters say what it says.
-- Assumes nothing.
use Rattle.std.specs.Prelude.{None}
use Prim.Native.Nat.{ℕ, ◌%◌, ◌<◌}
use native.Mathlib.Omega.{arith}
use mathlib.Core.Path.{◌≡◌, refl, ◌∙◌}
use mathlib.Core.Bool.{Bool, true, false}
use mathlib.Core.List.{List}
use lib.Dec.{eqb}
use lib.ListN.{length}
use borrow.Author.Tests.{ne_eqb, eqb-true}
use Rattle.seq.specs.Lists.{all_of}
use Rattle.hex_digits.proofs.HexLaws.{bytes-length, body-length, not-second}
use Rattle.seq.proofs.Tests.{and_left, and_right}
use Rattle.hex_digits.specs.Hex.{is_digit, is_hex, bytes_of}
use Rattle.hex_digits.specs.Frame.{is_checked, is_framed, body_of, byte_at}
use Rattle.line.specs.Calls.{longest_line, is_call, call_in, read_line}
use Rattle.framing.proofs.Framed.{some_byte}
use Rattle.line.proofs.Reading.{not-framed, framed-line}

-- The body of a call has one of four lengths.
pub other-body : (b : List ℕ) → (length b ≡ 1 → ⊥) → (length b ≡ 3 → ⊥) → (length b ≡ 11 → ⊥) → (length b ≡ 12 → ⊥) → call_in b ≡ None
unfolding call_in
other-body b one three eleven twelve = rw (no 1 3 three, no 2 1 one, no 3 11 eleven, no 4 1 one, no 5 12 twelve, no 6 3 three)
  where
    no : (call size : ℕ) → (length b ≡ size → ⊥) → is_call call size b ≡ false
    no call size n = not-second (eqb (byte_at b 0) call) (eqb (length b) size) (ne_eqb (length b) size n)

-- So a call line has one of four, two digits a byte and the check byte's.
pub other-line : (cs : List ℕ) → (length cs ≡ 4 → ⊥) → (length cs ≡ 8 → ⊥) → (length cs ≡ 24 → ⊥) → (length cs ≡ 26 → ⊥) → read_line cs ≡ None
other-line cs four eight long longest = by (is_framed cs) refl
  where
    by : (b : Bool) → is_framed cs ≡ b → read_line cs ≡ None
    by false e = not-framed cs e
    by true e =
        let even : length cs % 2 ≡ 0 = eqb-true (length cs % 2) 0 (and_right (all_of is_digit cs) (eqb (length cs % 2) 0) (and_left (is_hex cs) (is_checked (bytes_of cs)) e)) in
        let some = some_byte cs e in
        let bytes = bytes-length cs in
        let body = body-length (bytes_of cs) in
        framed-line cs e
        ∙ other-body (body_of (bytes_of cs)) (λ n. four (omega arith)) (λ n. eight (omega arith)) (λ n. long (omega arith)) (λ n. longest (omega arith))

pub too_long : (cs : List ℕ) → longest_line < length cs → read_line cs ≡ None
too_long cs h = other-line cs (λ e. omega arith) (λ e. omega arith) (λ e. omega arith) (λ e. omega arith)
