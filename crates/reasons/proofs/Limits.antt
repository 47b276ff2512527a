-- One limit beside a higher one: the lists, and what is told. Assumes nothing.
use mathlib.Core.Path.{◌≡◌, refl, sym, ap, ◌∙◌, subst}
use mathlib.Core.Bool.{Bool, true, false}
use mathlib.Core.List.{List, [], ◌∷◌}
use Prim.Native.Nat.{ℕ, ◌≤◌, ◌<◌}
use native.Mathlib.Omega.{arith}
use lib.Dec.{ltb}
use lib.ListN.{length, take, length-append}
use lib.Seq.{take_all, take-append-le, length-take-le}
use borrow.Author.Tests.{ltb-true, ltb-false, lt-ltb, le-ltb, le-leb, lt-leb}
use Rattle.ordering.specs.Order.{Key, down}
use Rattle.passes.specs.declared.Direction.{Direction}
use Rattle.passes.specs.Passes.{Ask, Progress, walked, takes_key, step_on, pass_on, pass}
use Rattle.ruling.specs.Rules.{ask_of}
use Rattle.passes.proofs.PassLaws.{step-takes, step-leaves, full-stays}
use Rattle.passes.proofs.Taken.{pass-grows}
use Rattle.choosing.specs.Choice.{is_b}
use Rattle.reasons.specs.declared.{Reason.Reason}
use Rattle.reasons.specs.Reasons.{in_front, at_turn, judged, judged_at, key_at, reason_for}
use Rattle.reasons.specs.Claims.{way_of, come_to, with_limit, LimitCuts, LimitTells}
use Rattle.reasons.proofs.Turns.{forward_on, forward-on}

-- What is asked, with another limit.
abbrev limited : ℕ → Ask → Ask
limited m a = record { limit = m; poc = a.poc; old = a.old; start = a.start; after = a.after }

-- The list is the other one cut at m; where that is shorter, all is the same.
record CutAt (m : ℕ) (q r : Progress) : Type 0 where
  pub cut : q.list ≡ take m r.list
  pub same : length r.list < m → q ≡ r

abbrev from : List Key → ℕ → Progress
from list bound = record { list = list; bound = bound }

module _ (a : Ask) (way : Direction) {m n : ℕ} (lower : m ≤ n) where
  -- below both limits a step is the same
  same_step : (p : Progress) (k : Key) → length p.list < m → step_on (limited m a) way p k ≡ step_on (limited n a) way p k
  same_step p k l = rw (lt-ltb (length p.list) m l, lt-ltb (length p.list) n (omega arith))

  -- a list that is as long as the limit stays, and the other only grows behind it
  longer : (p : Progress) (ks : List Key) → length p.list ≤ length (pass_on (limited n a) way p ks).list
  longer p ks = let g = pass-grows (limited n a) way p ks in let e = ap length g.split ∙ length-append p.list g.more in omega arith

  full-cut : (list rest : List Key) (bound : ℕ) → m ≤ length rest → list ≡ take m rest → (ks : List Key)
      → CutAt m (pass_on (limited m a) way (from list bound) ks) (pass_on (limited n a) way (from rest bound) ks)
  full-cut list rest bound h e ks =
      let n : length list ≡ m = ap length e ∙ length-take-le m rest h in
      let g = pass-grows (limited _ a) way (from rest bound) ks in
      record {
        cut =
            ap (λ (p : Progress). p.list) (full-stays (limited m a) way (from list bound) ks (omega arith))
            ∙ e
            ∙ sym (ap (take m) g.split ∙ take-append-le m rest g.more h);
        same = λ l. absurd (let g = longer (from rest bound) ks in omega arith);
      }

  step-short : (p : Progress) (k : Key) → length p.list < m → length (step_on (limited n a) way p k).list ≤ m
  step-short p k l = pick (takes_key (limited n a) way (length p.list) p.bound k) refl
    where
      pick : (t : Bool) → takes_key (limited n a) way (length p.list) p.bound k ≡ t → length (step_on (limited n a) way p k).list ≤ m
      pick true t =
          let e = ap (λ (q : Progress). length q.list) (step-takes (limited n a) way p k t) ∙ length-append p.list (k ∷ []) in
          omega arith
      pick false t = let e = ap (λ (q : Progress). length q.list) (step-leaves (limited n a) way p k t) in omega arith

  -- from one list that is no longer than the limit
  pass-cut : (p : Progress) (ks : List Key) → length p.list ≤ m → CutAt m (pass_on (limited m a) way p ks) (pass_on (limited n a) way p ks)
  unfolding pass_on
  pass-cut p [] h = record { cut = sym (take_all m p.list h); same = λ l. refl }
  pass-cut p (k ∷ ks) h = pick (ltb (length p.list) m) refl (λ q. pass-cut q ks)
    where
      pick : (b : Bool) → ltb (length p.list) m ≡ b
          → ((q : Progress) → length q.list ≤ m → CutAt m (pass_on (limited m a) way q ks) (pass_on (limited n a) way q ks))
          → CutAt m (pass_on (limited m a) way p (k ∷ ks)) (pass_on (limited n a) way p (k ∷ ks))
      pick true b rest =
          let l = ltb-true (length p.list) m b in
          subst (λ (q : Progress). CutAt m (pass_on (limited m a) way q ks) (pass_on (limited n a) way (step_on (limited n a) way p k) ks)) (sym (same_step p k l))
          (rest (step_on (limited n a) way p k) (step-short p k l))
      pick false b rest =
          let l = ltb-false (length p.list) m b in
          full-cut p.list p.list p.bound l (sym (take_all m p.list h)) (k ∷ ks)

  -- from a list and the same cut
  cut-from : (list rest : List Key) (bound : ℕ) → list ≡ take m rest → (ks : List Key)
      → CutAt m (pass_on (limited m a) way (from list bound) ks) (pass_on (limited n a) way (from rest bound) ks)
  cut-from list rest bound e ks = pick (ltb (length rest) m) refl
    where
      pick : (b : Bool) → ltb (length rest) m ≡ b → CutAt m (pass_on (limited m a) way (from list bound) ks) (pass_on (limited n a) way (from rest bound) ks)
      pick true b =
          let l = ltb-true (length rest) m b in
          let same : list ≡ rest = e ∙ take_all m rest (omega arith) in
          subst
          (λ (l : List Key). CutAt m (pass_on (limited m a) way (from l bound) ks) (pass_on (limited n a) way (from rest bound) ks))
          (sym same) (pass-cut (from rest bound) ks (omega arith))
      pick false b = full-cut list rest bound (ltb-false (length rest) m b) e ks

-- ---- the lists, and the walk to a turn

module _ (a : Ask) {m n : ℕ} (lower : m ≤ n) (ks : List Key) where
  no-list : ◌≡◌ {A = List Key} [] (take m [])
  no-list = sym (take_all m [] (omega arith))

  down-cut : pass (limited m a) Direction.Down ks [] ≡ take m (pass (limited n a) Direction.Down ks [])
  unfolding pass
  down-cut = (cut-from a Direction.Down lower [] [] a.start no-list ks).cut

  forward-cut : (both : Bool) → forward_on (limited m a) both ks ≡ take m (forward_on (limited n a) both ks)
  unfolding pass
  forward-cut true =
      (cut-from a Direction.Up lower (pass (limited m a) Direction.Down ks []) (pass (limited n a) Direction.Down ks []) a.start down-cut
      (walked Direction.Up ks)).cut
  forward-cut false = down-cut

  turn-cut : (way : Direction) (slot : ℕ) → CutAt m (at_turn (limited m a) way slot ks) (at_turn (limited n a) way slot ks)
  unfolding at_turn
  turn-cut Direction.Up slot =
      cut-from a Direction.Up lower (pass (limited m a) Direction.Down ks []) (pass (limited n a) Direction.Down ks []) a.start down-cut
      (in_front slot (walked Direction.Up ks))
  turn-cut Direction.Down slot = cut-from a Direction.Down lower [] [] a.start no-list (in_front slot ks)

pub limit-cuts : LimitCuts
limit-cuts c ks m n lower =
    forward-on (with_limit m c) ks ∙ forward-cut (ask_of c) lower ks (is_b c.slice_type) ∙ ap (take m) (sym (forward-on (with_limit n c) ks))

-- ---- what is told

module _ (a : Ask) (both : Bool) (way : Direction) {m n : ℕ} (lower : m ≤ n) (k : Key) where
  judged-full : (bound : ℕ) → judged (limited m a) both true way m bound k ≡ Reason.Full
  judged-full bound = rw (le-ltb m m (omega arith), le-leb m m (omega arith))

  judged-same : (cnt bound : ℕ) → cnt < m → judged (limited m a) both true way cnt bound k ≡ judged (limited n a) both true way cnt bound k
  judged-same cnt bound l = rw (lt-ltb cnt m l, lt-ltb cnt n (omega arith), lt-leb m cnt l, lt-leb n cnt (omega arith))

pub limit-tells : LimitTells
unfolding reason_for judged_at
limit-tells c xs slot m n lower marked = (full, same)
  where
    turns : CutAt m (come_to (with_limit m c) xs slot) (come_to (with_limit n c) xs slot)
    turns = turn-cut (ask_of c) lower (down xs) (way_of c xs slot) slot

    full : m ≤ length (come_to (with_limit n c) xs slot).list → reason_for (with_limit m c) xs slot ≡ Reason.Full
    full h =
        let p = come_to (with_limit m c) xs slot in
        let l : length p.list ≡ m = ap length turns.cut ∙ length-take-le m (come_to (with_limit n c) xs slot).list h in
        (λ i. judged (limited m (ask_of c)) (is_b c.slice_type) (marked i) (way_of c xs slot) (l i) p.bound (key_at xs slot))
        ∙ judged-full (ask_of c) (is_b c.slice_type) (way_of c xs slot) lower (key_at xs slot) p.bound

    same : length (come_to (with_limit n c) xs slot).list < m → reason_for (with_limit m c) xs slot ≡ reason_for (with_limit n c) xs slot
    same l =
        let p = come_to (with_limit n c) xs slot in
        let e = turns.same l in
        (λ i. judged (limited m (ask_of c)) (is_b c.slice_type) (marked i) (way_of c xs slot) (length (e i).list) (e i).bound (key_at xs slot))
        ∙ judged-same (ask_of c) (is_b c.slice_type) (way_of c xs slot) lower (key_at xs slot) (length p.list) p.bound l
        ∙ (λ i. judged (limited n (ask_of c)) (is_b c.slice_type) (sym marked i) (way_of c xs slot) (length p.list) p.bound (key_at xs slot))
