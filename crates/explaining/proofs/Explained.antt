-- The question why of a state that came and was opened: it is turned down where it is not whole, and else asked of the keys.
-- Assumes nothing.
use mathlib.Core.Path.{◌≡◌, refl, sym, ap, ◌∙◌}
use mathlib.Core.List.{List, map}
use Prim.Native.Nat.{ℕ}
use Rattle.def.specs.declared.{EvcPm.EvcPm, EvcRefP.EvcRefP, RefpCall.RefpCall, Refusal.Refusal}
use Rattle.keys.specs.Keys.{slot_at}
use Rattle.reasons.specs.Reasons.{why_whole, why}
use Rattle.std.specs.Prelude.{Result, Ok, Err}
use Rattle.keys.specs.declared.{Rest.Rest}
use Rattle.entry.specs.Opening.{Opens}
use Rattle.entry.proofs.Opened.{came-whole, opened-is, not-opened}

module _ {pm : EvcPm} {refp : List EvcRefP} {keys rows : List ℕ} {o : Result Rest Refusal} (p : Opens pm refp keys rows o) (c : RefpCall) (slot : ℕ) where
  pub why-turned-away : ((rest : Rest) → o ≡ Ok rest → ⊥) → Err Refusal.StateNotWhole ≡ why pm c slot
  unfolding why
  why-turned-away n = rw (sym p.tells ∙ not-opened o n) refl

  pub why-comes-to : {rest : Rest} → o ≡ Ok rest → why_whole (map (slot_at rows) keys) c slot ≡ why pm c slot
  unfolding why
  why-comes-to e = rw (came-whole p e) (ap (λ (q : EvcPm). why_whole q.pic c slot) (opened-is p e))
