-- Why the backward list of B is never empty where the forward list is not. Assumes nothing.
use mathlib.Core.Path.{◌≡◌, refl, sym, ap, ◌∙◌}
use mathlib.Core.Bool.{Bool, true, false, not, ◌&&◌, and-false}
use mathlib.Core.List.{List, [], ◌∷◌, ◌++◌}
use Prim.Native.Nat.{ℕ}
use native.Mathlib.Omega.{arith}
use lib.Dec.{leb, ltb}
use lib.ListN.{length}
use borrow.Author.Tests.{le-ltb, ltb-false}
use Rattle.passes.specs.declared.{Direction.Direction, Walk.Walk}
use Rattle.ordering.specs.Order.{Key}
use Rattle.passes.specs.Passes.{Ask, Progress, walked, side_of, takes_key, step_on, pass_on, pass, list_of}
use Rattle.passes.specs.Claims.{NothingTaken, BackwardHasEntry, BackwardIsForward, NothingHigher}
use Rattle.passes.proofs.PassLaws.{step-takes, step-leaves}
use Rattle.passes.proofs.Taken.{pass-grows, grows}

-- the front of an empty list is empty
no_front : (xs more : List Key) → [] ≡ xs ++ more → xs ≡ []
no_front [] more e = refl
no_front (x ∷ xs) more e = let n = ap length e in absurd (omega arith)

-- ---- a pass that takes nothing

module _ (a : Ask) (way : Direction) where
  -- what the empty list does not take, no list takes
  none-takes : (cnt bound : ℕ) (k : Key) → takes_key a way 0 bound k ≡ false → takes_key a way cnt bound k ≡ false
  none-takes cnt bound k t = pick (ltb 0 a.limit) refl t
    where
      rest : Bool
      rest = not (a.old k) && (side_of way a.poc k && leb k.layer bound)

      pick : (room : Bool) → ltb 0 a.limit ≡ room → (room && rest) ≡ false → (ltb cnt a.limit && rest) ≡ false
      pick true room t = rw t (and-false (ltb cnt a.limit))
      pick false room t = rw (le-ltb cnt a.limit (let z = ltb-false 0 a.limit room in omega arith))

  -- what is taken from the empty list stays
  taken-stays : (bound : ℕ) (k : Key) (ks : List Key) → takes_key a way 0 bound k ≡ true
      → (pass_on a way (step_on a way (record { list = []; bound = bound }) k) ks).list ≡ [] → ⊥
  taken-stays bound k ks t e =
      let p : Progress = record { list = []; bound = bound } in
      let g = pass-grows a way (step_on a way p k) ks in
      let taken = ap (λ (q : Progress). length q.list) (step-takes a way p k t) in
      let n = ap length (no_front (step_on a way p k).list g.more (sym e ∙ g.split)) in
      omega arith

  nothing-on : (bound : ℕ) (list ks : List Key) → (pass_on a way (record { list = []; bound = bound }) ks).list ≡ []
      → (pass_on a way (record { list = list; bound = bound }) ks).list ≡ list
  unfolding pass_on
  nothing-on bound list [] e = refl
  nothing-on bound list (k ∷ ks) e = pick (takes_key a way 0 bound k) refl (nothing-on bound list ks)
    where
      from : List Key → Progress
      from xs = record { list = xs; bound = bound }

      goes_on : List Key → List Key
      goes_on xs = (pass_on a way (step_on a way (from xs) k) ks).list

      pick : (t : Bool) → takes_key a way 0 bound k ≡ t → ((pass_on a way (from []) ks).list ≡ [] → (pass_on a way (from list) ks).list ≡ list) → goes_on list ≡ list
      pick true t rest = absurd (taken-stays bound k ks t e)
      pick false t rest =
          let on : Progress → List Key = λ q. (pass_on a way q ks).list in
          ap on (step-leaves a way (from list) k (none-takes (length list) bound k t)) ∙ rest (sym (ap on (step-leaves a way (from []) k t)) ∙ e)

pub nothing-taken : NothingTaken
unfolding pass
nothing-taken a way ks list e = nothing-on a way a.start list (walked way ks) e

-- ---- both lists of B

-- where the backward list is empty, going up took nothing
up-nothing : (a : Ask) (ks : List Key) → list_of a Walk.UpThenDown ks ≡ [] → pass a Direction.Up ks [] ≡ []
up-nothing a ks e = let g = grows a Direction.Down ks (pass a Direction.Up ks []) in no_front (pass a Direction.Up ks []) g.more (sym e ∙ g.split)

pub backward-is-forward : BackwardIsForward
backward-is-forward a ks e = ap (pass a Direction.Down ks) e ∙ sym (nothing-taken a Direction.Up ks (pass a Direction.Down ks []) e)

pub backward-has-entry : BackwardHasEntry
backward-has-entry a ks some e = some (sym (backward-is-forward a ks (up-nothing a ks e)) ∙ e)

pub nothing-higher : NothingHigher
unfolding pass_on pass
nothing-higher = refl
