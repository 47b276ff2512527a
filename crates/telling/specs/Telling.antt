-- Lines as their bytes come; `told` is what a line with its number gives.
-- Assumes nothing.
use Rattle.std.specs.Prelude.{ℕ, ◌+◌, ◌*◌, ◌≤◌, ◌≡◌, cond, List, [], ◌∷◌, ◌++◌, length, take}
use Rattle.buffer.specs.Buffer.{newline, is_newline}
use Rattle.phrases.specs.Phrases.{Added}
use Rattle.asking.specs.Asked.{Texts, texts}
use Rattle.telling.specs.Told.{joined, next_number}

-- How many characters of a line are kept, one more than it may have; how many bytes a line gives at most, and how many a piece has.
abbrev pub kept : ℕ
kept = 1024

abbrev pub most : ℕ
most = 128

abbrev pub piece_room : ℕ
piece_room = 1024

-- The line that is not finished yet, as far as it is kept, and its number.
pub record Speaker : Type 0 where
  pub line : List ℕ
  pub number : ℕ

abbrev pub speaker : List ℕ → ℕ → Speaker
speaker line number = record { line = line; number = number }

-- The same after part of an input, and what this gave.
pub record Fed : Type 0 where
  pub speaker : Speaker
  pub texts : Texts

abbrev pub fed : Speaker → Texts → Fed
fed s t = record { speaker = s; texts = t }

-- At the start, nothing is kept of line 1.
abbrev pub new_telling : Fed
new_telling = fed (speaker [] 1) (texts [] [])

-- A newline ends the line, which is told; any other byte is one more of it.
abbrev pub feed_byte : (ℕ → List ℕ → Texts) → Speaker → ℕ → Fed
feed_byte told s c =
    cond (is_newline c) (fed (speaker [] (next_number s.number)) (told s.number s.line))
    (fed (speaker (take kept (s.line ++ (c ∷ []))) s.number) (texts [] []))

unfoldable pub feed : (ℕ → List ℕ → Texts) → Speaker → List ℕ → Fed
feed told s [] = fed s (texts [] [])
feed told s (c ∷ cs) =
    let next = feed_byte told s c in
    let rest = feed told next.speaker cs in
    fed rest.speaker (joined next.texts rest.texts)

-- What a last line lacks: its newline, or nothing where no line is left.
abbrev pub last_newline : List ℕ → List ℕ
last_newline [] = []
last_newline (c ∷ cs) = newline ∷ []

-- At the end of the input a last line without its newline is ended as if it had one.
abbrev pub finish : (ℕ → List ℕ → Texts) → Speaker → Fed
finish told s = feed told s (last_newline s.line)

-- All that is given for what is left of the input.
abbrev pub gives : (ℕ → List ℕ → Texts) → Speaker → List ℕ → Texts
gives told s rest = joined (feed told s rest).texts (finish told (feed told s rest).speaker).texts

abbrev pub HearsLines : (ℕ → List ℕ → Texts) → Fed → List ℕ → Fed → Type 0
HearsLines told s piece t = t ≡ feed told s.speaker piece

abbrev pub EndsLines : (ℕ → List ℕ → Texts) → Fed → Fed → Type 0
EndsLines told s t = t ≡ finish told s.speaker

-- ---- a piece of any length

-- There is room for what a line gives for each byte.
pub record PieceRoom (piece out err : List ℕ) : Type 0 where
  pub out_room : most * length piece ≤ length out
  pub err_room : most * length piece ≤ length err

-- A piece of the input: its texts stand at the fronts of the buffers, which are else as they were.
pub record ToldPiece (told : ℕ → List ℕ → Texts) (s : Speaker) (piece out err : List ℕ) (m n : ℕ) (s' : Speaker) (out' err' : List ℕ) : Type 0 where
  pub speaker_is : s' ≡ (feed told s piece).speaker
  pub keeps : length s.line ≤ kept → length s'.line ≤ kept
  pub to_out : Added out 0 (feed told s piece).texts.out m out'
  pub to_err : Added err 0 (feed told s piece).texts.err n err'
  pub out_fits : m ≤ length out'
  pub err_fits : n ≤ length err'

-- ---- one byte more

-- One more character is kept of the line, where there is room.
abbrev pub kept_more : Fed → ℕ → Fed
kept_more s c = fed (speaker (take kept (s.speaker.line ++ (c ∷ []))) s.speaker.number) s.texts

-- Two texts stand at the front of two buffers, which are else as they were.
pub record Wrote (out err : List ℕ) (t : Texts) (m n : ℕ) (out' err' : List ℕ) : Type 0 where
  pub to_out : Added out 0 t.out m out'
  pub to_err : Added err 0 t.err n err'
  pub out_short : m ≤ most
  pub err_short : n ≤ most

-- There is room for what one more line gives.
pub record HasRoom (s : Fed) : Type 0 where
  pub out_room : length s.texts.out + most ≤ most * piece_room
  pub err_room : length s.texts.err + most ≤ most * piece_room

-- One more byte: its texts stand behind what stood there, and are short.
pub record Gives (told : ℕ → List ℕ → Texts) (s : Fed) (c : ℕ) (t : Fed) : Type 0 where
  pub is : t ≡ fed (feed_byte told s.speaker c).speaker (joined s.texts (feed_byte told s.speaker c).texts)
  pub out_short : length t.texts.out ≤ length s.texts.out + most
  pub err_short : length t.texts.err ≤ length s.texts.err + most

-- A piece that a teller may hear: its texts, and how long they are at most.
pub record GivesPiece (told : ℕ → List ℕ → Texts) (s : Fed) (piece : List ℕ) (t : Fed) : Type 0 where
  pub is : t ≡ feed told s.speaker piece
  pub out_short : length t.texts.out ≤ most * length piece
  pub err_short : length t.texts.err ≤ most * length piece
