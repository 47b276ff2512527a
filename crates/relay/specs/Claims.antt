-- What holds of every run of the loop: only the contract of `relay` is used.
-- Assumes nothing.
use Rattle.std.specs.Prelude.{ℕ, ◌≡◌, List, ◌++◌, Option, IfSome, OnOk, Result}
use Rattle.std.specs.Io.KnownBytes.{Appends}
use Rattle.conversation.specs.Pouring.{AppendsFront}
use Rattle.conversation.specs.Conversation.{Fronts}
use Rattle.conversation.specs.declared.Stop.{Stop}
use Rattle.asking.specs.Asked.{Texts, texts}
use Rattle.telling.specs.Told.{joined, told_input}
use Rattle.telling.specs.Telling.{Fed, new_telling, EndsLines}
use Rattle.relay.specs.Relayed.{KeptTells, LineTurns, RelayedNew}

-- Where the input has ended, what was given to be written, one part behind the other, is what its lines give, each once and in order.
abbrev pub RelayTells : Type 0
RelayTells = (told : ℕ → List ℕ → Texts) → KeptTells told
    → (last t : Fed) (n : ℕ) (input out err : List ℕ) → LineTurns told new_telling n input out err last → EndsLines told last t
    → joined (texts out err) t.texts ≡ told_input told input

-- Wherever the loop stopped, it is the beginning of that, whatever else the input would have brought.
pub record BeginsWith (whole front : Texts) : Type 0 where
  pub rest : Texts
  pub is : joined front rest ≡ whole

abbrev pub RelayBegins : Type 0
RelayBegins = (told : ℕ → List ℕ → Texts) → KeptTells told
    → (t : Fed) (n : ℕ) (input out err : List ℕ) → LineTurns told new_telling n input out err t → (later : List ℕ)
    → BeginsWith (told_input told (input ++ later)) (texts out err)

-- Where the reader's bytes are known and the input has ended, the output got all that its lines give, and the messages a beginning of each
-- part of it.
abbrev pub RelayPasses : Type 0
RelayPasses = (told : ℕ → List ℕ → Texts) → KeptTells told
    → (left left' wrote wrote' said said' : Option (List ℕ)) (r : Result (Unit {0}) Stop) → RelayedNew told left left' wrote wrote' said said' r
    → OnOk r (IfSome left (λ bytes. Appends wrote wrote' (told_input told bytes).out × Fronts said said' (told_input told bytes).err))

-- However the loop ended, the output got a beginning of it.
abbrev pub RelayPassesFront : Type 0
RelayPassesFront = (told : ℕ → List ℕ → Texts) → KeptTells told
    → (left left' wrote wrote' said said' : Option (List ℕ)) (r : Result (Unit {0}) Stop) → RelayedNew told left left' wrote wrote' said said' r
    → IfSome left (λ bytes. AppendsFront wrote wrote' (told_input told bytes).out)
