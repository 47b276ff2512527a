-- What the loop of a program that tells lines comes to; `told` is what a line with its number gives.
-- Assumes nothing.
use Rattle.std.specs.Prelude.{ℕ, ◌≡◌, List, Option, Result, take}
use Rattle.conversation.specs.declared.Stop.{Stop}
use Rattle.conversation.specs.Conversation.{Turns, Conversed}
use Rattle.asking.specs.Asked.{Texts}
use Rattle.telling.specs.Telling.{kept, piece_room, Fed, new_telling, HearsLines, EndsLines}

-- Of a line no more counts than what is kept of it.
abbrev pub KeptTells : (ℕ → List ℕ → Texts) → Type 0
KeptTells told = (number : ℕ) (line : List ℕ) → told number (take kept line) ≡ told number line

abbrev pub out_of : Fed → List ℕ
out_of f = f.texts.out

abbrev pub err_of : Fed → List ℕ
err_of f = f.texts.err

abbrev pub LineTurns : (ℕ → List ℕ → Texts) → Fed → ℕ → List ℕ → List ℕ → List ℕ → Fed → Type 0
LineTurns told = Turns (HearsLines told) out_of err_of

-- The turns, and where the input has ended its last line; and what was read and written of them.
abbrev pub Relayed : (ℕ → List ℕ → Texts) → Option (List ℕ) → Option (List ℕ) → Option (List ℕ) → Option (List ℕ) → Option (List ℕ) → Option (List ℕ)
    → Fed → Result (Unit {0}) Stop → Fed → Type 0
Relayed told left left' wrote wrote' said said' s r t =
    Conversed (HearsLines told) (EndsLines told) out_of err_of piece_room left left' wrote wrote' said said' s r t

-- The same from line 1.
pub record RelayedNew (told : ℕ → List ℕ → Texts) (left left' wrote wrote' said said' : Option (List ℕ)) (r : Result (Unit {0}) Stop) : Type 0 where
  pub last : Fed
  pub relayed : Relayed told left left' wrote wrote' said said' new_telling r last
