-- A state that came and was opened: whether it is whole, and that keys, rows and rest then stand for it.
-- Assumes nothing.
use mathlib.Core.Path.{◌≡◌, refl, sym, ap, ◌∙◌}
use mathlib.Core.Bool.{true, false}
use mathlib.Core.List.{List}
use Prim.Native.Nat.{ℕ}
use lib.ListN.{length, length-map}
use Rattle.std.specs.Prelude.{Result, Ok, Err, is_ok}
use Rattle.def.specs.State.{slots}
use Rattle.def.specs.declared.{EvcPm.EvcPm, EvcRefP.EvcRefP, Refusal.Refusal}
use Rattle.keys.specs.declared.{Rest.Rest}
use Rattle.keys.specs.Keys.{slot_at, stands}
use Rattle.whole.specs.Whole.{whole}
use Rattle.entry.specs.Opening.{Opens}

pub not-opened : (o : Result Rest Refusal) → ((rest : Rest) → o ≡ Ok rest → ⊥) → is_ok o ≡ false
not-opened (Ok rest) n = absurd (n rest refl)
not-opened (Err why) n = refl

module _ {pm : EvcPm} {refp : List EvcRefP} {keys rows : List ℕ} {o : Result Rest Refusal} (p : Opens pm refp keys rows o) where
  pub came-broken : {why : Refusal} → o ≡ Err why → whole pm ≡ false
  came-broken e = sym p.tells ∙ ap is_ok e

  module _ {rest : Rest} (e : o ≡ Ok rest) where
    pub came-whole : whole pm ≡ true
    came-whole = sym p.tells ∙ ap is_ok e

    pub opened-is : stands keys rows rest ≡ pm
    opened-is = p.stands_for rest e

    pub opened-whole : whole (stands keys rows rest) ≡ true
    opened-whole = ap whole opened-is ∙ came-whole

    pub came-long : length pm.pic ≡ slots
    came-long = rw (← opened-is) (length-map keys (slot_at rows) ∙ p.sized.slots_long)
