-- Writing a call line: the digits of the call's bytes and of its check byte, then a newline, from the start of a buffer that the caller lends. What is
-- given is how many bytes that took; behind them the buffer is as it was. First 18, for fields that are no call's, as flags above 15; then 20, for a
-- line that with its newline does not fit. Under both the buffer is untouched.
-- Assumes nothing.
use Rattle.std.specs.Prelude.{ℕ, Bool, cond, List, ltb, length, is_some, Result, Ok, Err}
use Rattle.std.proofs.Math.Seq.{paste}
use Rattle.def.specs.declared.Refusal.{Refusal}
use Rattle.hex_digits.specs.Hex.{digits_of}
use Rattle.line.specs.Calls.{call_in}
use Rattle.framing.specs.Framing.{whole_of, line_size}

-- What is given, and the buffer as it is left.
pub record WrittenOut : Type 0 where
  pub given : Result ℕ Refusal
  pub target : List ℕ

abbrev pub written_out : Result ℕ Refusal → List ℕ → WrittenOut
written_out given target = record { given = given; target = target }

abbrev pub is_call_body : List ℕ → Bool
is_call_body fields = is_some (call_in fields)

unfoldable pub written : List ℕ → List ℕ → WrittenOut
unfolding call_in digits_of
written fields target =
    cond (is_call_body fields)
    (cond (ltb (length target) (line_size fields)) (written_out (Err Refusal.NoRoom) target)
    (written_out (Ok (line_size fields)) (paste target 0 (whole_of fields) (line_size fields))))
    (written_out (Err Refusal.BadLine) target)
