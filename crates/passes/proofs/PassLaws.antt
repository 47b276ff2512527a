-- One step of a pass, the laws of a pass that specs/Claims.antt names, and passes whose requests ask the same. Assumes nothing.
use mathlib.Core.Path.{◌≡◌, refl, ap, ◌∙◌}
use mathlib.Core.Bool.{Bool, true, false, cond, not, and-false}
use mathlib.Core.List.{List, [], ◌∷◌, ◌++◌, foldl-append}
use Prim.Native.Nat.{◌≤◌}
use lib.Dec.{ltb}
use lib.ListN.{length}
use borrow.Author.Tests.{le-ltb}
use Rattle.seq.specs.Lists.{select}
use Rattle.seq.proofs.Orders.{select-reverse}
use Rattle.passes.specs.declared.{Direction.Direction, Walk.Walk}
use Rattle.ordering.specs.Order.{Key}
use Rattle.passes.specs.Passes.{Ask, Progress, opposite, takes_key, walked, step_on, pass_on, pass, both_ways, list_of}
use Rattle.passes.specs.InNumbers.{SameAsk}
use Rattle.passes.specs.Claims.{PassAppends, FullStays, ageless, young, PassingOver, ListsPassOver}

-- ---- one step

module _ (a : Ask) (way : Direction) (p : Progress) (k : Key) where
  pub step-takes : takes_key a way (length p.list) p.bound k ≡ true
      → step_on a way p k ≡ record { list = p.list ++ (k ∷ []); bound = a.after k.layer }
  step-takes t = rw t

  pub step-leaves : takes_key a way (length p.list) p.bound k ≡ false → step_on a way p k ≡ p
  step-leaves t = rw t

  step-full : a.limit ≤ length p.list → step_on a way p k ≡ p
  step-full h = step-leaves (rw (le-ltb (length p.list) a.limit h))

-- ---- a pass

pub pass-appends : PassAppends
unfolding pass_on
pass-appends a way p ks hs = foldl-append (step_on a way) p ks hs

pub full-stays : FullStays
unfolding pass_on
full-stays a way p [] h = refl
full-stays a way p (k ∷ ks) h = rw (step-full a way p k h) (full-stays a way p ks h)

-- ---- passing over

module _ (a : Ask) (way : Direction) where
  step-old : (p : Progress) (k : Key) → a.old k ≡ true → step_on a way p k ≡ p
  step-old p k o = step-leaves a way p k (rw o (and-false (ltb (length p.list) a.limit)))

  step-young : (p : Progress) (k : Key) → a.old k ≡ false → step_on a way p k ≡ step_on (ageless a) way p k
  step-young p k o = rw o

pub passing-over : PassingOver
unfolding pass_on select
passing-over a way p [] = refl
passing-over a way p (k ∷ ks) = pick (a.old k) refl (λ q. passing-over a way q ks)
  where
    pick : (o : Bool) → a.old k ≡ o → ((q : Progress) → pass_on a way q ks ≡ pass_on (ageless a) way q (young a ks))
        → pass_on a way (step_on a way p k) ks ≡ pass_on (ageless a) way p (cond (not o) (k ∷ young a ks) (young a ks))
    pick true o rest = rw (step-old a way p k o) (rest p)
    pick false o rest = rest (step_on a way p k) ∙ ap (λ (q : Progress). pass_on (ageless a) way q (young a ks)) (step-young a way p k o)

walked-young : (a : Ask) (way : Direction) (ks : List Key) → young a (walked way ks) ≡ walked way (young a ks)
walked-young a Direction.Up ks = select-reverse (λ k. not (a.old k)) ks
walked-young a Direction.Down ks = refl

pass-young : (a : Ask) (way : Direction) (ks list : List Key) → pass a way ks list ≡ pass (ageless a) way (young a ks) list
unfolding pass
pass-young a way ks list =
    let p : Progress = record { list = list; bound = a.start } in
    ap (λ (q : Progress). q.list) (passing-over a way p (walked way ks) ∙ ap (pass_on (ageless a) way p) (walked-young a way ks))

both-young : (a : Ask) (way : Direction) (ks : List Key) → both_ways a way ks ≡ both_ways (ageless a) way (young a ks)
both-young a way ks = pass-young a (opposite way) ks (pass a way ks []) ∙ ap (pass (ageless a) (opposite way) (young a ks)) (pass-young a way ks [])

pub lists-pass-over : ListsPassOver
lists-pass-over a Walk.Down ks = pass-young a Direction.Down ks []
lists-pass-over a Walk.DownThenUp ks = both-young a Direction.Down ks
lists-pass-over a Walk.UpThenDown ks = both-young a Direction.Up ks

-- ---- requests that ask the same

module _ {a b : Ask} (same : SameAsk a b) where
  same_step : (way : Direction) (p : Progress) (k : Key) → step_on a way p k ≡ step_on b way p k
  same_step way p k = rw (same.same_limit, same.same_old k, same.same_poc, same.same_after k.layer)

  same-on : (way : Direction) (p : Progress) (ks : List Key) → pass_on a way p ks ≡ pass_on b way p ks
  unfolding pass_on
  same-on way p [] = refl
  same-on way p (k ∷ ks) = rw (same_step way p k) (same-on way (step_on b way p k) ks)

  same-pass : (way : Direction) (ks list : List Key) → pass a way ks list ≡ pass b way ks list
  unfolding pass
  same-pass way ks list =
      rw same.same_start
      (ap (λ (p : Progress). p.list) (same-on way (record { list = list; bound = b.start }) (walked way ks)))

  same-both : (way : Direction) (ks : List Key) → both_ways a way ks ≡ both_ways b way ks
  same-both way ks = same-pass (opposite way) ks (pass a way ks []) ∙ ap (pass b (opposite way) ks) (same-pass way ks [])

  pub same-list : (walk : Walk) (ks : List Key) → list_of a walk ks ≡ list_of b walk ks
  same-list Walk.Down ks = same-pass Direction.Down ks []
  same-list Walk.DownThenUp ks = same-both Direction.Down ks
  same-list Walk.UpThenDown ks = same-both Direction.Up ks
