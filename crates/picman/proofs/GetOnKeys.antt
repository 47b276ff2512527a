-- Get on keys and rows, case by case: it comes to what get_whole says of the state that they stand for.
-- Assumes nothing.
use mathlib.Core.Path.{◌≡◌, refl, sym, ap, ◌∙◌, subst}
use mathlib.Core.Bool.{true, false}
use mathlib.Core.List.{List, [], ◌∷◌, map, Memᴰ}
use Prim.Native.Nat.{ℕ, ◌+◌, ◌-◌, ◌*◌, ◌<◌, ◌≤◌}
use native.Mathlib.Omega.{arith}
use lib.ListN.{length, get_or, replicate}
use lib.Seq.{paste, length-paste}
use Rattle.seq.specs.Lists.{any_of, count_if, lowest, remove_at, smallest_not_in}
use Rattle.seq.proofs.Smallest.{smallest}
use Rattle.seq.proofs.Members.{map_at, mem-at}
use Rattle.seq.proofs.Tests.{and_left}
use Rattle.seq.proofs.Walks.{lowest-passes, found-any, lowest-none}
use Rattle.seq.proofs.Orders.{remove-length}
use Rattle.seq.proofs.Maps.{map-lowest, map-any, map-remove}
use Rattle.def.specs.declared.{Answer.Answer, Refusal.Refusal}
use Rattle.def.specs.State.{slots, highest_poc, no_slot, is_idle, is_present}
use Rattle.std.specs.Prelude.{Some, None, position, Ok, Err}
use Rattle.store.proofs.Finding.{found-here, none-here}
use Rattle.keys.specs.declared.Rest.{Rest}
use Rattle.keys.specs.Keys.{key_present, key_idle, key_buffer, key_buffers, key_number, with_lease, row_length, row_at, slot_at, stands, Sized}
use Rattle.keys.proofs.RowLaws.{row-whole, row_other}
use Rattle.keys.proofs.KeyLaws.{slot-new, slots-unseen, buffers-same}
use Rattle.keys.proofs.ListRows.{lists_stay}
use Rattle.store.specs.FreeBuffer.{key_free}
use Rattle.whole.specs.Whole.{whole}
use Rattle.whole.proofs.Laws.{whole-rules, free-buffer-below}
use Rattle.picman.specs.Get.{reuse, free_buffer, shown, get_new, get_whole}
use Rattle.picman.specs.OnKeys.{Calls}
use Rattle.picman.proofs.GetCases.{get-leased, get-idle, get-none-idle, new-full, new-fresh, idle-occupied}
use Rattle.picman.proofs.Calls.{calls_by, calls-refused, calls-picture}

module _ (keys rows : List ℕ) (rest : Rest) (sized : Sized keys rows) (w : whole (stands keys rows rest) ≡ true) where
  same_place : lowest is_idle (map (slot_at rows) keys) ≡ lowest key_idle keys
  same_place = map-lowest (slot_at rows) is_idle keys

  pub on-leased : key_present rest.lease ≡ true
      → Calls (Err Refusal.PictureLeased) keys rows rest keys rows rest (get_whole (stands keys rows rest))
  on-leased l = calls_by (get-leased (stands keys rows rest) l) (calls-refused Refusal.PictureLeased keys rows rest sized)

  module _ (free : key_present rest.lease ≡ false) where
    -- an idle slot
    module _ (h : lowest key_idle keys < slots) where
      idle : key_idle (get_or keys (lowest key_idle keys) 0) ≡ true
      idle = lowest-passes 0 key_idle keys (omega (arith, sized.slots_long))

      some : any_of is_idle (map (slot_at rows) keys) ≡ true
      some = map-any (slot_at rows) is_idle keys ∙ found-any key_idle keys (omega (arith, sized.slots_long))

      pub reuse-size : 0 < rest.cur_pb_size
      reuse-size = idle-occupied (stands keys rows rest) w some

      pub reuse-number : key_number (get_or keys (lowest key_idle keys) 0) ≤ highest_poc
      reuse-number =
          let k : ℕ = get_or keys (lowest key_idle keys) 0 in
          let m : Memᴰ (slot_at rows k) (map (slot_at rows) keys) =
          mathlib.Core.List.Memᴰ.map (slot_at rows) (mem-at keys (lowest key_idle keys) 0 (omega (arith, sized.slots_long))) in
          (whole-rules (stands keys rows rest) w).numbers_fit (slot_at rows k) (mathlib.Core.List.Memᴰ.append_left (slot_at rows rest.lease ∷ []) m)
          (and_left (key_present k) _ idle)

      pub on-idle : let i = lowest key_idle keys in
          let k = get_or keys i 0 in
          Calls (Ok (Answer.Picture (key_buffer k) (key_number k))) keys rows rest (remove_at 0 i keys) rows (with_lease rest k (rest.cur_pb_size - 1)) (get_whole (stands keys rows rest))
      on-idle =
          let i : ℕ = lowest key_idle keys in
          let inside : i < length keys = omega (arith, sized.slots_long) in
          let at : get_or (map (slot_at rows) keys) i no_slot ≡ slot_at rows (get_or keys i 0) = map_at (slot_at rows) keys i 0 no_slot inside in
          let same : get_whole (stands keys rows rest) ≡ reuse (stands keys rows rest) i =
          get-idle (stands keys rows rest) free some ∙ ap (reuse (stands keys rows rest)) same_place in
          calls_by same (calls-picture (λ b no. refl) (record {
            answers = ap Ok (ap shown (sym at));
            stands_for = rw (map-remove (slot_at rows) 0 i keys, at) refl;
            lists_stay = refl;
            still_sized = record { slots_long = remove-length 0 i keys inside ∙ sized.slots_long; rows_long = sized.rows_long };
          }))

    -- the idle slot that is found
    module _ (i : ℕ) (e : position key_idle keys ≡ Some i) where
      here : (lowest key_idle keys ≡ i) × (i < length keys)
      here = found-here key_idle keys i e

      hit : lowest key_idle keys < slots
      hit = let f = here in omega (arith, f.0, f.1, sized.slots_long)

      pub found-occupied : 0 < rest.cur_pb_size
      found-occupied = reuse-size hit

      pub found-number : key_number (get_or keys i 0) ≤ highest_poc
      found-number = subst (λ (j : ℕ). key_number (get_or keys j 0) ≤ highest_poc) here.0 (reuse-number hit)

      pub on-found :
          let k = get_or keys i 0 in
          Calls (Ok (Answer.Picture (key_buffer k) (key_number k))) keys rows rest (remove_at 0 i keys) rows (with_lease rest k (rest.cur_pb_size - 1)) (get_whole (stands keys rows rest))
      on-found =
          subst (λ (j : ℕ).
          Calls (Ok (Answer.Picture (key_buffer (get_or keys j 0)) (key_number (get_or keys j 0)))) keys rows rest (remove_at 0 j keys) rows
          (with_lease rest (get_or keys j 0) (rest.cur_pb_size - 1))
          (get_whole (stands keys rows rest)))
          here.0
          (on-idle hit)

    -- none
    module _ (nothing : position key_idle keys ≡ None) where
      none : length keys ≤ lowest key_idle keys
      none = none-here key_idle keys nothing

      new : get_whole (stands keys rows rest) ≡ get_new (stands keys rows rest)
      new = get-none-idle (stands keys rows rest) free (map-any (slot_at rows) is_idle keys ∙ lowest-none 0 key_idle keys none)

      size : rest.cur_pb_size ≡ count_if is_present (map (slot_at rows) keys)
      size = (whole-rules (stands keys rows rest) w).size_matches

      pub on-full : rest.max_pb_size ≤ rest.cur_pb_size
          → Calls (Err Refusal.StoreFull) keys rows rest keys rows rest (get_whole (stands keys rows rest))
      on-full h = calls_by (new ∙ new-full (stands keys rows rest) (omega (arith, size))) (calls-refused Refusal.StoreFull keys rows rest sized)

      module _ (room : rest.cur_pb_size < rest.max_pb_size) where
        same-free : free_buffer (stands keys rows rest) ≡ key_free keys
        same-free = ap smallest_not_in (buffers-same rows keys)

        pub free-below : key_free keys < slots
        free-below =
            let m = (whole-rules (stands keys rows rest) w).store_size in
            let b = free-buffer-below (stands keys rows rest) (omega (arith, size)) in
            omega (arith, same-free)

        pub on-new :
            let b = key_free keys in
            Calls (Ok (Answer.Picture b 0)) keys rows rest keys (paste rows (row_length * b) (replicate row_length 0) row_length)
            (with_lease rest (b * 8 + 1) rest.cur_pb_size) (get_whole (stands keys rows rest))
        on-new =
            let b : ℕ = key_free keys in
            let h : b < slots = free-below in
            let r = sized.rows_long in
            let zeros : List ℕ = replicate row_length 0 in
            let after : List ℕ = paste rows (row_length * b) zeros row_length in
            let written : row_at after b ≡ zeros = row-whole rows b zeros r (omega arith) refl in
            let others = row_other rows b zeros row_length r (omega arith) (omega arith) (omega arith) in
            let unseen : map (slot_at after) keys ≡ map (slot_at rows) keys = slots-unseen rows after b others keys (λ m. free-not-held b refl m) in
            calls_by (new ∙ new-fresh (stands keys rows rest) (omega (arith, size))) (calls-picture others (record {
              answers = rw (← same-free);
              stands_for = rw (unseen, slot-new after b (omega arith) written, same-free) refl;
              lists_stay = lists_stay rows b zeros row_length r h (omega arith) (omega arith);
              still_sized = record {
                slots_long = sized.slots_long;
                rows_long = length-paste rows (row_length * b) zeros row_length (omega arith) (omega arith) ∙ r;
              };
            }))
          where
            free-not-held : (b : ℕ) → b ≡ key_free keys → Memᴰ b (key_buffers keys) → ⊥
            free-not-held b e m = (smallest (key_buffers keys)).missing (subst (λ (n : ℕ). Memᴰ n (key_buffers keys)) e m)
