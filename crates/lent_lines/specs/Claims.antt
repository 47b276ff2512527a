-- A caller of the library can go on at the place that it is shown, learns how long the line is that was written, and loses nothing where it is
-- turned down.
-- Assumes nothing.
use Rattle.std.specs.Prelude.{ℕ, ◌+◌, ◌*◌, ◌/◌, ◌%◌, ◌^◌, ◌<◌, ◌≤◌, ◌≡◌, List, length}
use Rattle.def.specs.Word.{word}
use Rattle.hex_digits.specs.Frame.{byte_at}
use Rattle.line.specs.Calls.{longest_line}
use Rattle.reader.specs.Reading.{after_line}
use Rattle.writer.specs.Writing.{written}
use Rattle.lent_lines.specs.LentLines.{record_length, read_out, written_status, written_length, wrote_out}

-- The place in a record, from which a caller goes on.
abbrev pub place_in : List ℕ → ℕ
place_in bs = word (byte_at bs 7) (byte_at bs 8) (byte_at bs 9) (byte_at bs 10) * 4294967296 + word (byte_at bs 11) (byte_at bs 12) (byte_at bs 13) (byte_at bs 14)

-- It is where the reader stands then, for every buffer and every place that a caller can have.
abbrev pub PlaceShown : Type 0
PlaceShown =
    (lines : List ℕ) (at : ℕ) (record_bytes : List ℕ) → length lines < 2 ^ 64 → at < 2 ^ 64 → length record_bytes ≡ record_length
    → place_in (read_out lines at record_bytes).buffer ≡ after_line lines at

-- What the writer gives, taken apart as a caller does it.
abbrev pub status_in : ℕ → ℕ
status_in given = given % 256

abbrev pub length_in : ℕ → ℕ
length_in given = given / 256

-- The two parts are the status and the length of what was written.
abbrev pub StatusTold : Type 0
StatusTold = (fields target : List ℕ) → status_in (wrote_out fields target).given ≡ written_status (written fields target).given

abbrev pub LengthTold : Type 0
LengthTold = (fields target : List ℕ) → length_in (wrote_out fields target).given ≡ written_length (written fields target).given

-- No line is longer than that of a list call, 26 digits and a newline.
abbrev pub LengthShort : Type 0
LengthShort = (fields target : List ℕ) → length_in (wrote_out fields target).given ≤ longest_line + 1

-- What is turned down, with 18 or 20, leaves the buffer to write to as it was.
abbrev pub RefusedLeaves : Type 0
RefusedLeaves = (fields target : List ℕ) → 1 ≤ status_in (wrote_out fields target).given → (wrote_out fields target).buffer ≡ target
