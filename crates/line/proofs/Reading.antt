-- What each test of a line's characters and bytes decides.
-- Assumes nothing.
use Rattle.std.specs.Prelude.{None}
use Prim.Native.Nat.{ℕ, ◌%◌}
use mathlib.Core.Path.{◌≡◌}
use mathlib.Core.Bool.{true, false}
use mathlib.Core.List.{List}
use lib.Dec.{eqb}
use lib.ListN.{length}
use borrow.Author.Tests.{eq-eqb, eqb-true}
use Rattle.seq.specs.Lists.{all_of}
use Rattle.seq.proofs.Tests.{and_left, and_right}
use Rattle.hex_digits.specs.Hex.{is_digit, is_hex, bytes_of}
use Rattle.hex_digits.specs.Frame.{body_of, is_checked, is_framed}
use Rattle.line.specs.Calls.{call_in, call_kind, call_from, read_line}
use Rattle.framing.proofs.Framed.{unframed, of-body}

-- Bytes that have no check byte are bad, and of any others the body is read.
pub unchecked : (bs : List ℕ) → is_checked bs ≡ false → call_from bs ≡ None
unfolding call_from call_kind
unchecked bs e = rw e

pub checked : (bs : List ℕ) → is_checked bs ≡ true → call_from bs ≡ call_in (body_of bs)
unfolding call_from call_kind
checked bs e = rw e

-- A line is bad where a character is no digit, or one digit has no other to pair with.
pub bad-digits : (cs : List ℕ) → is_hex cs ≡ false → read_line cs ≡ None
unfolding read_line
bad-digits cs e = rw e

pub hex-line : (cs : List ℕ) → all_of is_digit cs ≡ true → length cs % 2 ≡ 0 → read_line cs ≡ call_from (bytes_of cs)
unfolding read_line call_from
hex-line cs e f = rw (e, eq-eqb (length cs % 2) 0 f)

-- The same of the line as a whole.
pub not-framed : (cs : List ℕ) → is_framed cs ≡ false → read_line cs ≡ None
unfolding read_line
not-framed cs e = unframed call_kind cs e

pub framed-line : (cs : List ℕ) → is_framed cs ≡ true → read_line cs ≡ call_in (body_of (bytes_of cs))
unfolding read_line call_kind
framed-line cs e = of-body call_kind cs e

pub framed-bytes : (cs : List ℕ) → is_framed cs ≡ true → read_line cs ≡ call_from (bytes_of cs)
framed-bytes cs e =
    let hex = and_left (is_hex cs) (is_checked (bytes_of cs)) e in
    hex-line cs (and_left (all_of is_digit cs) (eqb (length cs % 2) 0) hex) (eqb-true (length cs % 2) 0 (and_right (all_of is_digit cs) (eqb (length cs % 2) 0) hex))
