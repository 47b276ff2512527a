-- The room that the passes have, and the row of a key in its order from how far its pass has come. Assumes nothing.
use mathlib.Core.Path.{◌≡◌, sym, ap, ◌∙◌}
use mathlib.Core.Bool.{Bool, true}
use mathlib.Core.List.{List, []}
use Prim.Native.Nat.{ℕ, ◌+◌, ◌≤◌}
use native.Mathlib.Omega.{arith}
use lib.ListN.{length, length-map}
use Rattle.seq.specs.Lists.{count_if}
use Rattle.seq.proofs.Tests.{count-length}
use Rattle.def.specs.State.{list_places}
use Rattle.def.specs.declared.{RefpCall.RefpCall}
use Rattle.ordering.specs.Order.{Key}
use Rattle.ordering.specs.InNumbers.{key_in, keys_in}
use Rattle.passes.specs.declared.{Direction.Direction, PassRule.PassRule}
use Rattle.passes.specs.Passes.{Ask, side_of, walked, pass_on}
use Rattle.passes.specs.InNumbers.{ask_in, progress_in, SameAsk}
use Rattle.passes.proofs.Sides.{sides-count}
use Rattle.passes.proofs.Taken.{grows, more-few}
use Rattle.passes.proofs.Walked.{walked-count}
use Rattle.ruling.specs.Rules.{ask_of}
use Rattle.choosing.specs.Choice.{is_b}
use Rattle.reasons.specs.declared.{Reason.Reason}
use Rattle.reasons.specs.Reasons.{turn_of, in_front, begun, at_turn, judged, judged_at}
use Rattle.reaching.proofs.Front.{count-front}

-- ---- the room

module _ (rule : PassRule) (way : Direction) (ordered list front : List ℕ) (few : length ordered ≤ list_places)
    (b : keys_in list ≡ begun (ask_in rule) way (keys_in ordered)) (slot : ℕ)
    (f : walked way (keys_in front) ≡ in_front slot (walked way (keys_in ordered))) where
  -- no more of its side stand in front than in all
  front-few : count_if (side_of way rule.poc) (keys_in front) ≤ count_if (side_of way rule.poc) (keys_in ordered)
  front-few =
      let p = side_of way rule.poc in
      let a = walked-count way p (keys_in front) in
      let c = walked-count way p (keys_in ordered) in
      let d = ap (count_if p) f in
      let e = count-front p slot (walked way (keys_in ordered)) in
      omega arith

  with-begun : length (begun (ask_in rule) way (keys_in ordered)) + count_if (side_of way rule.poc) (keys_in ordered) ≤ length ordered
  with-begun = go way
    where
      go : (w : Direction) → length (begun (ask_in rule) w (keys_in ordered)) + count_if (side_of w rule.poc) (keys_in ordered) ≤ length ordered
      go Direction.Down = let n = length-map ordered key_in in let h = count-length (side_of Direction.Down rule.poc) (keys_in ordered) in omega arith
      go Direction.Up =
          let g = grows (ask_in rule) Direction.Down (keys_in ordered) [] in
          let m = more-few (ask_in rule) Direction.Down (keys_in ordered) g in
          let e = ap length g.split in
          let n = length-map ordered key_in in
          let s = sides-count Direction.Down rule.poc (keys_in ordered) in
          omega arith

  pub turn-room : length list + count_if (side_of way rule.poc) (keys_in front) ≤ list_places
  turn-room =
      let a = front-few in
      let c = with-begun in
      let n = length-map list key_in in
      let e = ap length b in
      omega arith

-- ---- the row

-- Requests that ask the same are the same.
same-ask : {a b : Ask} → SameAsk a b → a ≡ b
same-ask s = λ i. record {
  limit = s.same_limit i;
  poc = s.same_poc i;
  old = λ k. s.same_old k i;
  start = s.same_start i;
  after = λ n. s.same_after n i;
}

-- The reason of a key in its order, by what is asked.
judged_on : Ask → Bool → Bool → List Key → Key → Reason
judged_on a both marked ks k =
    let way = turn_of both a.poc k in
    let p = at_turn a way k.slot ks in
    judged a both marked way (length p.list) p.bound k

module _ (rule : PassRule) (way : Direction) (ordered list front : List ℕ) (both : Bool) (key : ℕ)
    (w : way ≡ turn_of both rule.poc (key_in key))
    (b : keys_in list ≡ begun (ask_in rule) way (keys_in ordered))
    (f : walked way (keys_in front) ≡ in_front (key_in key).slot (walked way (keys_in ordered)))
    (after : List ℕ) (bound : ℕ)
    (e : progress_in after bound ≡ pass_on (ask_in rule) way (progress_in list rule.start) (walked way (keys_in front))) where
  come-to : progress_in after bound ≡ at_turn (ask_in rule) way (key_in key).slot (keys_in ordered)
  unfolding at_turn
  come-to = e ∙ (λ i. pass_on (ask_in rule) way (record { list = b i; bound = rule.start }) (f i))

  on-rule : judged (ask_in rule) both true way (length after) bound (key_in key) ≡ judged_on (ask_in rule) both true (keys_in ordered) (key_in key)
  unfolding judged_on
  on-rule =
      (λ i. judged (ask_in rule) both true way (sym (length-map after key_in) i) bound (key_in key))
      ∙ (λ i. let p = come-to i in judged (ask_in rule) both true way (length p.list) p.bound (key_in key))
      ∙ (λ i. let p = at_turn (ask_in rule) (w i) (key_in key).slot (keys_in ordered) in judged (ask_in rule) both true (w i) (length p.list) p.bound (key_in key))

  pub on-call : (c : RefpCall) (k : Key) → SameAsk (ask_in rule) (ask_of c) → both ≡ is_b c.slice_type → key_in key ≡ k
      → judged (ask_in rule) both true way (length after) bound (key_in key) ≡ judged_at c true (keys_in ordered) k
  unfolding judged_on judged_at
  on-call c k same s q = on-rule ∙ (λ i. judged_on (same-ask same i) (s i) true (keys_in ordered) (q i))
