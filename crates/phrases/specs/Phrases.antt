-- Texts as characters, numbers in decimal as the library prints them, and a text that was put into a buffer.
-- Assumes nothing.
use Rattle.std.specs.Prelude.{ℕ, ◌+◌, ◌≡◌, List, length, codes}
use Prim.Native.String.{String}
pub use Rattle.std.specs.Fmt.{decimal}
use Rattle.std.proofs.lemmas.List.Edits.{sets}

-- The characters of a text.
abbrev pub chars : String → List ℕ
chars = codes

-- The buffer holds what it held, but for the text, which stands from a place on; `next` is the place behind it.
pub record Added (before : List ℕ) (at : ℕ) (text : List ℕ) (next : ℕ) (after : List ℕ) : Type 0 where
  pub holds : after ≡ sets before at text
  pub behind : next ≡ at + length text
