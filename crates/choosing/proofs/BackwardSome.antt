-- Where the forward list of a slice B has an entry, so has its backward list. Assumes nothing.
use mathlib.Core.Path.{◌≡◌, refl, ap}
use mathlib.Core.Bool.{true}
use mathlib.Core.List.{List, [], ◌∷◌}
use native.Mathlib.Omega.{arith}
use lib.ListN.{length}
use Rattle.def.specs.declared.{RefpCall.RefpCall, SliceType.SliceType}
use Rattle.ordering.specs.Order.{Key}
use Rattle.passes.specs.declared.Walk.{Walk}
use Rattle.ruling.specs.Rules.{ask_of}
use Rattle.passes.proofs.Backward.{backward-has-entry}
use Rattle.choosing.specs.Choice.{is_b, forward_walk, forward_of, backward_of}

both-walk : (s : SliceType) → is_b s ≡ true → forward_walk s ≡ Walk.DownThenUp
both-walk SliceType.EVC_ST_UNKNOWN e = cc
both-walk SliceType.EVC_ST_I e = cc
both-walk SliceType.EVC_ST_P e = cc
both-walk SliceType.EVC_ST_B e = refl

pub no-entry : (ks : List Key) → length ks ≡ 0 → ks ≡ []
no-entry [] e = refl
no-entry (k ∷ ks) e = absurd (omega arith)

pub backward-some : (c : RefpCall) (ks : List Key) → is_b c.slice_type ≡ true → (length (forward_of c ks) ≡ 0 → ⊥) → length (backward_of c ks) ≡ 0 → ⊥
backward-some c ks b some z =
    backward-has-entry (ask_of c) ks
    (λ e. some (rw (both-walk c.slice_type b) (ap length e)))
    (no-entry (backward_of c ks) z)
