-- A list call on a state that came and was opened: it stays where it is not whole, and else the core has worked on it.
-- Assumes nothing.
use mathlib.Core.Path.{◌≡◌, refl, sym, ap, ap₂, ◌∙◌}
use mathlib.Core.Bool.{true, false}
use mathlib.Core.List.{List}
use Prim.Native.Nat.{ℕ}
use Rattle.def.specs.declared.{EvcPm.EvcPm, EvcRefP.EvcRefP, RefpCall.RefpCall, Refusal.Refusal}
use Rattle.def.specs.Results.{RefpResult}
use Rattle.keys.specs.Keys.{lists_in, stands, ComesLists, Called}
use Rattle.whole.specs.Whole.{whole}
use Rattle.refp.specs.Lists.{lists, lists_whole}
use Rattle.refp.proofs.ListLaws.{lists-stay-whole}
use Rattle.std.specs.Prelude.{Result, Ok, Err}
use Rattle.keys.specs.declared.{Rest.Rest}
use Rattle.entry.specs.Opening.{Opens}
use Rattle.listing.specs.Listing.{GivesLists}
use Rattle.entry.proofs.Opened.{came-whole, opened-is, not-opened}

module _ {pm : EvcPm} {refp : List EvcRefP} {keys rows : List ℕ} {o : Result Rest Refusal} (p : Opens pm refp keys rows o) (c : RefpCall) where
  pub lists-turned-away : ((rest : Rest) → o ≡ Ok rest → ⊥) → GivesLists (lists pm refp c) (Err Refusal.StateNotWhole) pm refp
  unfolding lists
  lists-turned-away n = rw (sym p.tells ∙ not-opened o n) (record { answers = refl; leaves = refl; lists_are = refl })

  whole-lists : whole pm ≡ true → lists pm refp c ≡ lists_whole pm refp c
  unfolding lists
  whole-lists w = rw w refl

  module _ {rest : Rest} (e : o ≡ Ok rest) {r : Called} {after : List ℕ}
      (came : ComesLists r keys after (lists_whole (stands keys rows rest) (lists_in rows) c)) where
    on-whole : lists pm refp c ≡ lists_whole (stands keys rows rest) (lists_in rows) c
    on-whole =
        whole-lists (came-whole p e) ∙ ap₂ (λ (q : EvcPm) (es : List EvcRefP). lists_whole q es c) (sym (opened-is p e)) (sym p.lists_stay)

    pub lists-still-whole : whole (stands keys after r.rest) ≡ true
    lists-still-whole =
        ap whole (came.lists_stand_for ∙ ap (λ (x : RefpResult). x.pm) (sym on-whole)) ∙ lists-stay-whole pm refp c (came-whole p e)

    pub lists-come-to : GivesLists (lists pm refp c) r.answer (stands keys after r.rest) (lists_in after)
    lists-come-to = rw on-whole (record { answers = came.lists_answers; leaves = came.lists_stand_for; lists_are = came.lists_are })
