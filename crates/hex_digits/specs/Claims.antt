-- What holds of every kind of line whose bodies and records stand for each other: what is written is read back, a record has one line
-- among all lines, and two records never share one. Calls and answers are such kinds.
-- Assumes nothing.
use Rattle.std.specs.Prelude.{ℕ, ◌≡◌, List, Some}
use Rattle.hex_digits.specs.Frame.{AreBytes, Kind, from_line, line_of}

module _ {A : Type 0} where
  -- The bodies of a kind, and the records that fit its fields, stand for each other.
  pub record Lawful (kind : Kind A) (Fits : A → Type 0) : Type 0 where
    pub bytes : (a : A) → Fits a → AreBytes (kind.body a)
    pub reads : (a : A) → Fits a → kind.meaning (kind.body a) ≡ Some a
    pub one : (b : List ℕ) (a : A) → AreBytes b → kind.meaning b ≡ Some a → b ≡ kind.body a
    pub fits : (b : List ℕ) (a : A) → AreBytes b → kind.meaning b ≡ Some a → Fits a

  -- Reading a written line gives its record.
  abbrev pub ReadsBack : Kind A → (A → Type 0) → Type 0
  ReadsBack kind Fits = (a : A) → Fits a → from_line kind (line_of kind a) ≡ Some a

  -- A line that reads as a record is the line that is written of it.
  abbrev pub OneLine : Kind A → Type 0
  OneLine kind = (cs : List ℕ) (a : A) → from_line kind cs ≡ Some a → cs ≡ line_of kind a

  -- Two different records never share a line.
  abbrev pub LinesDiffer : Kind A → (A → Type 0) → Type 0
  LinesDiffer kind Fits = (a b : A) → Fits a → Fits b → line_of kind a ≡ line_of kind b → a ≡ b

  pub record Faithful (kind : Kind A) (Fits : A → Type 0) : Type 0 where
    pub reads_back : ReadsBack kind Fits
    pub one_line : OneLine kind
    pub lines_differ : LinesDiffer kind Fits

-- The three, shown once over the kinds of line.
abbrev pub LinesFaithful : Type 1
LinesFaithful = (A : Type 0) (kind : Kind A) (Fits : A → Type 0) → Lawful kind Fits → Faithful kind Fits
