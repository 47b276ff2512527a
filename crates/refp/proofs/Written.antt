-- The filled list set, place by place. Assumes nothing.
use mathlib.Core.Path.{◌≡◌, sym, ap, ◌∙◌}
use mathlib.Core.List.{List, map}
use Prim.Native.Nat.{ℕ, ◌+◌, ◌-◌, ◌≤◌, ◌<◌}
use native.Mathlib.Omega.{arith}
use lib.ListN.{length, get_or, take, drop, length-map, length-drop, length-append, get_or-append}
use lib.Seq.{get_or-append-add, get_or-drop, get_or-take, length-take-le}
use Rattle.seq.proofs.Members.{map_at}
use Rattle.def.specs.State.{list_places, no_ref_p}
use Rattle.def.specs.declared.{Slot.Slot, EvcRefP.EvcRefP}
use Rattle.ordering.specs.Order.{Key}
use Rattle.refp.specs.Lists.{entry_of, dropped, written, both_written}

-- ---- one list

module _ (xs : List Slot) (ks : List Key) (es : List EvcRefP) where
  written-length : length ks ≤ length es → length (written xs ks es) ≡ length es
  written-length h =
      length-append (map (entry_of xs) ks) (drop (length ks) (map dropped es))
      ∙ (let a = length-map ks (entry_of xs) in let b = length-drop (length ks) (map dropped es) in let c = length-map es dropped in omega arith)

  written-front : (j : ℕ) (d : Key) → j < length ks → get_or (written xs ks es) j no_ref_p ≡ entry_of xs (get_or ks j d)
  written-front j d h =
      get_or-append (map (entry_of xs) ks) (drop (length ks) (map dropped es)) no_ref_p j (let a = length-map ks (entry_of xs) in omega arith)
      ∙ map_at (entry_of xs) ks j d no_ref_p h

  written_back : (j : ℕ) → length ks ≤ j → j < length es → get_or (written xs ks es) j no_ref_p ≡ dropped (get_or es j no_ref_p)
  written_back j l h =
      let n : length (map (entry_of xs) ks) ≡ length ks = length-map ks (entry_of xs) in
      let e : length (map (entry_of xs) ks) + (j - length ks) ≡ j = omega arith in
      ap (λ (i : ℕ). get_or (written xs ks es) i no_ref_p) (sym e)
      ∙ get_or-append-add (map (entry_of xs) ks) (drop (length ks) (map dropped es)) (j - length ks) no_ref_p
      ∙ get_or-drop (length ks) (map dropped es) (j - length ks) no_ref_p
      ∙ ap (λ (i : ℕ). get_or (map dropped es) i no_ref_p) (let f : length ks + (j - length ks) ≡ j = omega arith in f)
      ∙ map_at dropped es j no_ref_p no_ref_p h

-- ---- both lists

pub record TwoLists (refp : List EvcRefP) (fwd bwd : List Key) : Type 0 where
  pub refp_long : length refp ≡ list_places + list_places
  pub forward_few : length fwd ≤ list_places
  pub backward_few : length bwd ≤ list_places

module _ (xs : List Slot) (refp : List EvcRefP) (fwd bwd : List Key) (w : TwoLists refp fwd bwd) where
  front_long : length (take list_places refp) ≡ list_places
  front_long = length-take-le list_places refp (let n = w.refp_long in omega arith)

  back_long : length (drop list_places refp) ≡ list_places
  back_long = let n = w.refp_long in let l = length-drop list_places refp in omega arith

  first-long : length (written xs fwd (take list_places refp)) ≡ list_places
  first-long = let n = front_long in let f = w.forward_few in let e = written-length xs fwd (take list_places refp) (omega arith) in omega arith

  pub both_long : length (both_written xs fwd bwd refp) ≡ list_places + list_places
  both_long =
      length-append (written xs fwd (take list_places refp)) (written xs bwd (drop list_places refp))
      ∙ (let n = first-long in
      let m = back_long in
      let f = w.backward_few in
      let e = written-length xs bwd (drop list_places refp) (omega arith) in
      omega arith)

  in-first : (j : ℕ) → j < list_places → get_or (both_written xs fwd bwd refp) j no_ref_p ≡ get_or (written xs fwd (take list_places refp)) j no_ref_p
  in-first j h = get_or-append (written xs fwd (take list_places refp)) (written xs bwd (drop list_places refp)) no_ref_p j (let n = first-long in omega arith)

  in-second : (i : ℕ) → get_or (both_written xs fwd bwd refp) (list_places + i) no_ref_p ≡ get_or (written xs bwd (drop list_places refp)) i no_ref_p
  in-second i =
      rw (← first-long)
      (get_or-append-add (written xs fwd (take list_places refp)) (written xs bwd (drop list_places refp)) i no_ref_p)

  -- the pictures taken, and what the entries behind them keep
  pub forward-place : (j : ℕ) (d : Key) → j < length fwd → get_or (both_written xs fwd bwd refp) j no_ref_p ≡ entry_of xs (get_or fwd j d)
  forward-place j d h = in-first j (let f = w.forward_few in omega arith) ∙ written-front xs fwd (take list_places refp) j d h

  pub forward-rest : (j : ℕ) → length fwd ≤ j → j < list_places → get_or (both_written xs fwd bwd refp) j no_ref_p ≡ dropped (get_or refp j no_ref_p)
  forward-rest j l h =
      in-first j h ∙ written_back xs fwd (take list_places refp) j l (let n = front_long in omega arith) ∙ ap dropped (get_or-take list_places refp j no_ref_p h)

  pub backward-place : (i : ℕ) (d : Key) → i < length bwd → get_or (both_written xs fwd bwd refp) (list_places + i) no_ref_p ≡ entry_of xs (get_or bwd i d)
  backward-place i d h = in-second i ∙ written-front xs bwd (drop list_places refp) i d h

  pub backward-rest : (i : ℕ) → length bwd ≤ i → i < list_places
      → get_or (both_written xs fwd bwd refp) (list_places + i) no_ref_p ≡ dropped (get_or refp (list_places + i) no_ref_p)
  backward-rest i l h =
      in-second i ∙ written_back xs bwd (drop list_places refp) i l (let n = back_long in omega arith) ∙ ap dropped (get_or-drop list_places refp i no_ref_p)
