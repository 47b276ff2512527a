-- What the loop gives to be written is what the lines of the input give.
-- Assumes nothing.
use Rattle.std.proofs.Common.{◌≡◌, ℕ, List, [], ◌++◌, sym, ap, ◌∙◌, subst, append-nil, arith}
use Rattle.std.specs.Prelude.{Option, None, Some, IfSome, OnOk, Result, Ok, Err}
use Rattle.std.specs.Io.KnownBytes.{Appends}
use Rattle.conversation.specs.Pouring.{AppendsFront}
use Rattle.conversation.specs.Conversation.{Fronts}
use Rattle.conversation.specs.declared.Stop.{Stop}
use Rattle.conversation.proofs.Turning.{turns-begin, turns-complain, conversed-all, conversed-begins}
use Rattle.asking.specs.Asked.{Texts, texts}
use Rattle.telling.specs.Told.{joined, told_input}
use Rattle.telling.specs.Telling.{Fed, new_telling, speaker, gives}
use Rattle.telling.specs.Laws.{lines-hear-on, lines-end-so}
use Rattle.relay.specs.Relayed.{KeptTells, LineTurns}
use Rattle.relay.specs.Claims.{RelayTells, RelayBegins, RelayPasses, RelayPassesFront}
use Rattle.relay.proofs.Lines.{gives-input}

abbrev tells : (ℕ → List ℕ → Texts) → Fed → List ℕ → List ℕ
tells told s rest = (gives told s.speaker rest).out

abbrev complains : (ℕ → List ℕ → Texts) → Fed → List ℕ → List ℕ
complains told s rest = (gives told s.speaker rest).err

both : {x y z w : List ℕ} → x ≡ y → z ≡ w → texts x z ≡ texts y w
both f g = cc

-- Turns give the beginning of what is given for the whole.
turns-give : (told : ℕ → List ℕ → Texts) (t : Fed) {n : ℕ} {input out err : List ℕ} → LineTurns told new_telling n input out err t → (rest : List ℕ)
    → gives told (speaker [] 1) (input ++ rest) ≡ joined (texts out err) (gives told t.speaker rest)
turns-give told t turns rest =
    both (turns-begin (tells told) (λ a b p r h. (lines-hear-on told a b p r h).0) turns rest)
    (turns-complain (complains told) (λ a b p r h. (lines-hear-on told a b p r h).1) turns rest)

pub relay-tells : RelayTells
relay-tells told enough last t n input out err turns ends =
    let end = lines-end-so told last t ends in
    ap (joined (texts out err)) (sym (both end.0 end.1))
    ∙ sym (turns-give told last turns [])
    ∙ ap (gives told (speaker [] 1)) (append-nil input)
    ∙ gives-input told enough input

pub relay-begins : RelayBegins
relay-begins told enough t n input out err turns later =
    record { rest = gives told t.speaker later; is = sym (turns-give told t turns later) ∙ gives-input told enough (input ++ later) }

-- ---- where the reader's bytes are known

pub all-told : (told : ℕ → List ℕ → Texts) → KeptTells told → (left wrote wrote' said said' : Option (List ℕ)) (r : Result (Unit {0}) Stop)
    → OnOk r (IfSome left (λ bytes. Appends wrote wrote' (tells told new_telling bytes) × Fronts said said' (complains told new_telling bytes)))
    → OnOk r (IfSome left (λ bytes. Appends wrote wrote' (told_input told bytes).out × Fronts said said' (told_input told bytes).err))
all-told told enough left wrote wrote' said said' (Err stop) h = tt
all-told told enough None wrote wrote' said said' (Ok u) h = tt
all-told told enough (Some bytes) wrote wrote' said said' (Ok u) h =
    let e = gives-input told enough bytes in
    (subst (λ (x : Texts). Appends wrote wrote' x.out) e h.0, subst (λ (x : Texts). Fronts said said' x.err) e h.1)

pub begun-told : (told : ℕ → List ℕ → Texts) → KeptTells told → (left wrote wrote' : Option (List ℕ))
    → IfSome left (λ bytes. AppendsFront wrote wrote' (tells told new_telling bytes))
    → IfSome left (λ bytes. AppendsFront wrote wrote' (told_input told bytes).out)
begun-told told enough None wrote wrote' h = tt
begun-told told enough (Some bytes) wrote wrote' h =
    subst (λ (x : Texts). AppendsFront wrote wrote' x.out) (gives-input told enough bytes) h

pub relay-passes : RelayPasses
relay-passes told enough left left' wrote wrote' said said' r p =
    all-told told enough left wrote wrote' said said' r
    (conversed-all (tells told) (complains told) (lines-hear-on told) (lines-end-so told) (omega arith) left r p.relayed)

pub relay-passes-front : RelayPassesFront
relay-passes-front told enough left left' wrote wrote' said said' r p =
    begun-told told enough left wrote wrote'
    (conversed-begins (tells told) (complains told) (lines-hear-on told) (lines-end-so told) (omega arith) left r p.relayed)
