-- What a conversation comes to: the turns, what was read and written, and how it ended.
-- Assumes nothing.
use Rattle.std.specs.Prelude.{ℕ, ◌+◌, ◌^◌, ◌<◌, ◌≡◌, Bool, true, false, List, [], ◌++◌, length, ⊤, Option, Result, Ok, Err}
use Rattle.std.specs.Io.KnownBytes.{Appends, Consumes, IsAtEnd}
use Rattle.std.specs.declared.io.Error.{Error}
use Rattle.conversation.specs.Pouring.{AppendsFront}
use Rattle.conversation.specs.Reading.{IsInterrupted}
use Rattle.conversation.specs.declared.Stop.{Stop}
use Rattle.conversation.specs.declared.Stop.TheVariants.{Read, Write, LastWrite, UsedUp}

-- Turns, each on the teller that the one before left. `input` is what their reads brought, none of them nothing, `out` and `err` what the
-- teller gave to be written, one part behind the other; `n` is how many there were.
pub data Turns {T : Type 0} (Hears : T → List ℕ → T → Type 0) (output messages : T → List ℕ) : T → ℕ → List ℕ → List ℕ → List ℕ → T → Type 0 where
  no_turn : {s : T} → Turns Hears output messages s 0 [] [] [] s
  next_turn : {s t u : T} {n : ℕ} {input out err : List ℕ} (piece : List ℕ)
      → Turns Hears output messages s n input out err t → 0 < length piece → Hears t piece u
      → Turns Hears output messages s (n + 1) (input ++ piece) (out ++ output u) (err ++ messages u) u

-- How many turns there are at most.
abbrev pub most_turns : ℕ
most_turns = 2 ^ 64

-- Whether the end of the input was told, written or not.
abbrev pub is_final : Result (Unit {0}) Stop → Bool
is_final (Ok u) = true
is_final (Err (Read e)) = false
is_final (Err (Write e)) = false
is_final (Err (LastWrite e)) = true
is_final (Err UsedUp) = false

-- The turns, and behind them the end of the input where it was reached.
pub data Course {T : Type 0} (Hears : T → List ℕ → T → Type 0) (Ends : T → T → Type 0) (output messages : T → List ℕ) (s : T)
    : Bool → ℕ → List ℕ → List ℕ → List ℕ → T → Type 0 where
  stopped : {t : T} {n : ℕ} {input out err : List ℕ} → Turns Hears output messages s n input out err t
      → Course Hears Ends output messages s false n input out err t
  to_the_end : {last t : T} {n : ℕ} {input out err : List ℕ} → Turns Hears output messages s n input out err last → Ends last t
      → Course Hears Ends output messages s true n input (out ++ output t) (err ++ messages t) t

-- What the output got of the bytes that were given, by how it ended.
abbrev pub Wrote : Result (Unit {0}) Stop → Option (List ℕ) → Option (List ℕ) → List ℕ → Type 0
Wrote (Ok u) old new bytes = Appends old new bytes
Wrote (Err (Read e)) old new bytes = Appends old new bytes
Wrote (Err (Write e)) old new bytes = AppendsFront old new bytes
Wrote (Err (LastWrite e)) old new bytes = AppendsFront old new bytes
Wrote (Err UsedUp) old new bytes = Appends old new bytes

-- The writer of messages got a beginning of each part: a message that can't be written is lost, and the loop goes on.
pub data Fronts : Option (List ℕ) → Option (List ℕ) → List ℕ → Type 0 where
  one_front : {old new : Option (List ℕ)} {bytes : List ℕ} → AppendsFront old new bytes → Fronts old new bytes
  next_front : {old mid new : Option (List ℕ)} {before bytes : List ℕ} → Fronts old mid before → AppendsFront mid new bytes
      → Fronts old new (before ++ bytes)

-- No read fails by a signal: it is repeated.
abbrev pub NotInterrupted : Result (Unit {0}) Stop → Type 0
NotInterrupted (Ok u) = ⊤
NotInterrupted (Err (Read e)) = IsInterrupted (Err e) → ⊥
NotInterrupted (Err (Write e)) = ⊤
NotInterrupted (Err (LastWrite e)) = ⊤
NotInterrupted (Err UsedUp) = ⊤

-- What was read is what the reader lost, and what was given is what the writers got, where the bytes of each are known. The loop stops
-- at the end of the input, at a failure that no signal caused, or where the turns are used up. A write fails only of what a turn gave, or
-- of what the end did. Where there is no `room` for a byte, a read that brings nothing says nothing of the end.
pub record Conversed {T : Type 0} (Hears : T → List ℕ → T → Type 0) (Ends : T → T → Type 0) (output messages : T → List ℕ)
    (room : ℕ) (left left' wrote wrote' said said' : Option (List ℕ)) (s : T) (r : Result (Unit {0}) Stop) (t : T) : Type 0 where
  pub made : ℕ
  pub input : List ℕ
  pub out : List ℕ
  pub err : List ℕ
  pub course : Course Hears Ends output messages s (is_final r) made input out err t
  pub reads : Consumes left left' input
  pub writes : Wrote r wrote wrote' out
  pub front : Fronts said said' err
  pub at_end : 0 < room → is_final r ≡ true → IsAtEnd left'
  pub patient : NotInterrupted r
  pub used_up : r ≡ Err UsedUp → made ≡ most_turns
  pub some_turn : (e : Error) → r ≡ Err (Write e) → 0 < made
