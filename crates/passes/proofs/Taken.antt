-- What a list can hold: keys of the order, none twice, at most as many as the list limit and as there are keys.
-- Assumes nothing.
use mathlib.Core.Path.{◌≡◌, refl, sym, ap, ◌∙◌, subst}
use mathlib.Core.Bool.{Bool, true, false, not, ◌&&◌}
use mathlib.Core.Bool as Bool
use mathlib.Core.List.Memᴰ
use mathlib.Core.List.Sublistᴰ
use mathlib.Core.List.{List, [], ◌∷◌, ◌++◌, append-nil, append_assoc, Sublistᴰ, Memᴰ}
use mathlib.Core.Logic.{⊎_elim}
use Prim.Native.Nat.{ℕ, ◌≤◌, ◌<◌}
use native.Mathlib.Omega.{arith}
use lib.Dec.{leb, ltb}
use lib.ListN.{length, length-append}
use lib.Seq.{take_at}
use borrow.Author.Tests.{ltb-true}
use Rattle.seq.specs.Lists.{count_if, Distinct}
use Rattle.seq.proofs.Members.{holds-cons}
use Rattle.seq.proofs.Tests.{and_left, and_right, count-length}
use Rattle.seq.proofs.Distinct.{distinct_append}
use Rattle.seq.proofs.Orders.{sublist-mem, sublist-distinct, sublist-count}
use Rattle.ordering.specs.Order.{Key}
use Rattle.passes.specs.declared.{Direction.Direction, Walk.Walk}
use Rattle.passes.specs.Passes.{Ask, Progress, opposite, side_of, walked, takes_key, step_on, pass_on, pass, both_ways, list_of}
use Rattle.passes.specs.Claims.{GrowsAtEnd}
use Rattle.passes.proofs.PassLaws.{step-takes, step-leaves}
use Rattle.passes.proofs.Sides.{one_side, sides-count}
use Rattle.passes.proofs.Walked.{walked-count, walked-mem, walked-distinct}

-- A pass leaves the list as it was and puts behind it keys of its side, in the order of the walk, up to the limit.
pub record Grown (a : Ask) (way : Direction) (ks list out : List Key) : Type 0 where
  pub more : List Key
  pub split : out ≡ list ++ more
  pub inside : Sublistᴰ more ks
  pub on-side : (k : Key) → Memᴰ k more → side_of way a.poc k ≡ true
  pub limited : length list ≤ a.limit → length out ≤ a.limit

module _ (a : Ask) (way : Direction) where
  same : (list : List Key) → Grown a way [] list list
  same list =
      record {
        more = [];
        split = sym (append-nil list);
        inside = Sublistᴰ.nil-sublist [];
        on-side = λ k m. absurd (Memᴰ.not-nil m);
        limited = λ h. h;
      }

  passed-by : (k : Key) (ks list out : List Key) → Grown a way ks list out → Grown a way (k ∷ ks) list out
  passed-by k ks list out g = record { more = g.more; split = g.split; inside = Sublistᴰ.cons g.inside; on-side = g.on-side; limited = g.limited }

  -- what is taken stands on the side, and the list had room for it
  pub taken-side : (cnt bound : ℕ) (k : Key) → takes_key a way cnt bound k ≡ true → (cnt < a.limit) × (side_of way a.poc k ≡ true)
  taken-side cnt bound k t =
      let side = side_of way a.poc k && leb k.layer bound in
      let rest = and_right (ltb cnt a.limit) (not (a.old k) && side) t in (
        ltb-true cnt a.limit (and_left (ltb cnt a.limit) (not (a.old k) && side) t),
        and_left (side_of way a.poc k) (leb k.layer bound) (and_right (not (a.old k)) side rest),
      )

  one_more : (k : Key) (ks list out : List Key) → length list < a.limit → side_of way a.poc k ≡ true
      → Grown a way ks (list ++ (k ∷ [])) out → Grown a way (k ∷ ks) list out
  one_more k ks list out room t g =
      record {
        more = k ∷ g.more;
        split = g.split ∙ append_assoc list (k ∷ []) g.more;
        inside = Sublistᴰ.cons-cons refl g.inside;
        on-side = holds-cons (λ x. side_of way a.poc x ≡ true) t g.on-side;
        limited = λ h. g.limited (let n = length-append list (k ∷ []) in omega arith);
      }

  pub pass-grows : (p : Progress) (ks : List Key) → Grown a way ks p.list (pass_on a way p ks).list
  unfolding pass_on
  pass-grows p [] = same p.list
  pass-grows p (k ∷ ks) = go (takes_key a way (length p.list) p.bound k) refl (λ q. pass-grows q ks)
    where
      go : (t : Bool) → takes_key a way (length p.list) p.bound k ≡ t → ((q : Progress) → Grown a way ks q.list (pass_on a way q ks).list)
          → Grown a way (k ∷ ks) p.list (pass_on a way (step_on a way p k) ks).list
      go true t rest =
          let s = taken-side (length p.list) p.bound k t in
          rw (step-takes a way p k t) (one_more k ks p.list _ s.0 s.1 (rest (record { list = p.list ++ (k ∷ []); bound = a.after k.layer })))
      go false t rest = rw (step-leaves a way p k t) (passed-by k ks p.list _ (rest p))

  pub grows : (ks list : List Key) → Grown a way (walked way ks) list (pass a way ks list)
  unfolding pass
  grows ks list = pass-grows (record { list = list; bound = a.start }) (walked way ks)

pub grows-at-end : GrowsAtEnd
grows-at-end a way p ks = let g = pass-grows a way p ks in rw g.split (take_at p.list g.more (length p.list) refl)

-- ---- one list

pub record Taken (limit : ℕ) (ks out : List Key) : Type 0 where
  pub members : (k : Key) → Memᴰ k out → Memᴰ k ks
  pub once : Distinct ks → Distinct out
  pub limited : length out ≤ limit
  pub few : length out ≤ length ks

pub none-taken : (limit : ℕ) (ks : List Key) → Taken limit ks []
unfolding Distinct
none-taken limit ks = record { members = λ k m. absurd (Memᴰ.not-nil m); once = λ d. tt; limited = omega arith; few = omega arith }

module _ (a : Ask) (way : Direction) (ks : List Key) where
  pub more-few : {list out : List Key} (g : Grown a way (walked way ks) list out) → length g.more ≤ count_if (side_of way a.poc) ks
  more-few g = let h = sublist-count (side_of way a.poc) g.inside g.on-side in let e = walked-count way (side_of way a.poc) ks in omega arith

  one-pass : {out : List Key} → Grown a way (walked way ks) [] out → Taken a.limit ks out
  one-pass g =
      record {
        members = λ k m. walked-mem way ks (sublist-mem g.inside (subst (Memᴰ k) g.split m));
        once = λ d. subst Distinct (sym g.split) (sublist-distinct g.inside (walked-distinct way ks d));
        limited = g.limited (omega arith);
        few = (let h = more-few g in let e = ap length g.split in let n = count-length (side_of way a.poc) ks in omega arith);
      }

module _ (a : Ask) (way : Direction) (ks : List Key) {mid out : List Key} (g : Grown a way (walked way ks) [] mid)
    (h : Grown a (opposite way) (walked (opposite way) ks) mid out) where
  both-split : out ≡ g.more ++ h.more
  both-split = h.split ∙ ap (λ (l : List Key). l ++ h.more) g.split

  both-members : (k : Key) → Memᴰ k (g.more ++ h.more) → Memᴰ k ks
  both-members k m =
      ⊎_elim (λ n. walked-mem way ks (sublist-mem g.inside n)) (λ n. walked-mem (opposite way) ks (sublist-mem h.inside n))
      (Memᴰ.append_cases g.more m)

  two-passes : Taken a.limit ks out
  two-passes =
      record {
        members = λ k m. both-members k (subst (Memᴰ k) both-split m);
        once = λ d. subst Distinct (sym both-split)
            (distinct_append g.more h.more (sublist-distinct g.inside (walked-distinct way ks d))
            (sublist-distinct h.inside (walked-distinct (opposite way) ks d))
            (λ k m n. Bool.true≢false (sym (h.on-side k n) ∙ one_side way a.poc k (g.on-side k m))));
        limited = h.limited (g.limited (omega arith));
        few =
            (let e = ap length both-split ∙ length-append g.more h.more in
            let m = more-few a way ks g in
            let n = more-few a (opposite way) ks h in
            let s = sides-count way a.poc ks in
            omega arith);
      }

both-taken : (a : Ask) (way : Direction) (ks : List Key) → Taken a.limit ks (both_ways a way ks)
both-taken a way ks = two-passes a way ks (grows a way ks []) (grows a (opposite way) ks (pass a way ks []))

pub list-taken : (a : Ask) (walk : Walk) (ks : List Key) → Taken a.limit ks (list_of a walk ks)
list-taken a Walk.Down ks = one-pass a Direction.Down ks (grows a Direction.Down ks [])
list-taken a Walk.DownThenUp ks = both-taken a Direction.Down ks
list-taken a Walk.UpThenDown ks = both-taken a Direction.Up ks
