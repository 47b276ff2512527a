-- What the program reads of a line that was written.
-- Assumes nothing.
use Rattle.std.specs.Prelude.{ℕ, ◌≤◌, ◌<◌, ◌≡◌, List, [], ◌∷◌, length, drop, Some, Ok, Err}
use Rattle.def.specs.declared.Refusal.{Refusal}
use Rattle.line.specs.declared.Call.{Call}
use Rattle.line.specs.declared.Call.TheVariants.{PutPic}
use Rattle.line.specs.Calls.{call_bytes}
use Rattle.framing.specs.Framing.{line_size}
use Rattle.line.specs.Lines.{call_at}
use Rattle.line.specs.Claims.{CallFits}
use Rattle.writer.specs.Writing.{written_out, written}

-- The program's reader finds the call at the front of the buffer, and stands behind the line; what stood there is as it was.
pub record ReadsWritten (call : Call) (target : List ℕ) : Type 0 where
  pub given : (written (call_bytes call) target).given ≡ Ok (line_size (call_bytes call))
  pub read : call_at (written (call_bytes call) target).target 0 ≡ Some (call, line_size (call_bytes call))
  pub behind : drop (line_size (call_bytes call)) (written (call_bytes call) target).target ≡ drop (line_size (call_bytes call)) target

abbrev pub WrittenIsRead : Type 0
WrittenIsRead = (call : Call) (target : List ℕ) → CallFits call → line_size (call_bytes call) ≤ length target → ReadsWritten call target

-- A buffer that is too short: 20.
abbrev pub NoRoomIsTwenty : Type 0
NoRoomIsTwenty =
    (call : Call) (target : List ℕ) → CallFits call → length target < line_size (call_bytes call)
    → (written (call_bytes call) target).given ≡ Err Refusal.NoRoom

-- Flags over 15: 18, whatever room there is.
abbrev pub FlagsBeforeRoom : Type 0
FlagsBeforeRoom =
    (flags poc layer gap : ℕ) (target : List ℕ) → 15 < flags
    → (written (call_bytes (PutPic flags poc layer gap)) target).given ≡ Err Refusal.BadLine

-- Neither refusal writes anything.
abbrev pub RefusedUnwritten : Type 0
RefusedUnwritten = (fields target : List ℕ) (why : Refusal) → (written fields target).given ≡ Err why → (written fields target).target ≡ target

-- For example: a get, 02fe and its newline, into six bytes leaves the last one; into four bytes it is 20, and they stay.
abbrev pub GetIntoSix : Type 0
GetIntoSix = written (2 ∷ []) (1 ∷ 2 ∷ 3 ∷ 4 ∷ 5 ∷ 6 ∷ []) ≡ written_out (Ok 5) (48 ∷ 50 ∷ 102 ∷ 101 ∷ 10 ∷ 6 ∷ [])

abbrev pub GetIntoFour : Type 0
GetIntoFour = written (2 ∷ []) (1 ∷ 2 ∷ 3 ∷ 4 ∷ []) ≡ written_out (Err Refusal.NoRoom) (1 ∷ 2 ∷ 3 ∷ 4 ∷ [])
