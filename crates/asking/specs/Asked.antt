-- What is made of a line of commands: the line of a call, a message that says what was expected, or nothing.
-- Assumes nothing.
use Rattle.std.specs.Prelude.{ℕ, cond, List, [], Option, Some, None, Result, Ok, Err, ltb, length}
use Rattle.arrayvec.specs.ArrayVec.{ArrayVec}
use Rattle.arrayvec.specs.ArrayString.{ArrayString}
use Rattle.hex_digits.specs.Hex.{digits_of, sum8}
use Rattle.framing.specs.Framing.{whole_of}
use Rattle.line.specs.Calls.{call_bytes}
use Rattle.line.specs.declared.Call.{Call}
use Rattle.commands.specs.declared.Expected.{Expected}
use Rattle.commands.specs.Commands.{read_command}
use Rattle.expecting.specs.Expected.{expected_words}

-- What goes to the output, and what to the messages.
pub record Texts : Type 0 where
  pub out : List ℕ
  pub err : List ℕ

abbrev pub texts : List ℕ → List ℕ → Texts
texts out err = record { out = out; err = err }

abbrev pub asked_for : ℕ → Result (Option Call) Expected → Texts
asked_for number (Ok None) = texts [] []
asked_for number (Ok (Some call)) = texts (whole_of (call_bytes call)) []
asked_for number (Err want) = texts [] (expected_words number want)

-- A line with its number. One of more than 1,023 characters is bad, whatever they are.
abbrev pub longest : ℕ
longest = 1023

unfoldable pub asked : ℕ → List ℕ → Texts
unfolding digits_of sum8 read_command expected_words
asked number line = cond (ltb longest (length line)) (texts [] (expected_words number Expected.ShorterLine)) (asked_for number (read_command line))

-- What was made of a line, as texts.
abbrev pub told_texts : Result (Option (ArrayVec ℕ)) ArrayString → Texts
told_texts (Ok (Some line)) = texts line.items []
told_texts (Ok None) = texts [] []
told_texts (Err message) = texts [] message.bytes
