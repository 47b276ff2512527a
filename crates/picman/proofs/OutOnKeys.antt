-- Out on keys, case by case: it comes to what out_whole says of the state that they stand for, whatever the rows hold.
-- Assumes nothing.
use mathlib.Core.Path.{◌≡◌, refl, sym, ap, ◌∙◌, subst}
use mathlib.Core.Bool.{Bool, true, false}
use mathlib.Core.List.Memᴰ
use mathlib.Core.List.{List, [], ◌∷◌, map}
use Prim.Native.Nat.{ℕ, ◌<◌, ◌≤◌}
use native.Mathlib.Omega.{arith}
use lib.Dec.{leb}
use lib.ListN.{length, get_or, set, length-set}
use Rattle.seq.specs.Lists.{any_of, lowest}
use Rattle.seq.proofs.Members.{map_at, mem-at}
use Rattle.seq.proofs.Tests.{and_left}
use Rattle.seq.proofs.Walks.{lowest-passes, lowest-none, found-any}
use Rattle.seq.proofs.Maps.{map-lowest, map-any, map-set}
use Rattle.def.specs.declared.{EvcPm.EvcPm, Answer.Answer}
use Rattle.def.specs.State.{slots, highest_poc, no_slot, is_wanted}
use Rattle.std.specs.Prelude.{Option, Some, None, Ok, Err, position}
use Rattle.picman.specs.declared.{NoMoreOutput.NoMoreOutput}
use Rattle.store.proofs.Finding.{found-here, none-here}
use Rattle.keys.specs.declared.Rest.{Rest}
use Rattle.keys.specs.Keys.{key_present, key_wanted, key_buffer, key_number, key_out, key_handed_over, rows_length, slot_at, stands, Sized}
use Rattle.keys.proofs.KeyLaws.{slot-handed-over}
use Rattle.whole.specs.Whole.{whole}
use Rattle.whole.proofs.Laws.{whole-rules}
use Rattle.picman.specs.Get.{shown}
use Rattle.picman.specs.Out.{is_due, hand_over, out_whole}
use Rattle.picman.specs.OnKeys.{key_due, due_or_none, due_place, with_output_of, NumbersFit, Calls}
use Rattle.picman.proofs.OutCases.{due_slot, some_due, out-due, out-none-due}
use Rattle.picman.proofs.Calls.{calls_by, calls-picture}

-- The pictures' numbers of a whole state fit.
pub numbers_fit : (keys rows : List ℕ) (rest : Rest) → length keys ≡ slots → whole (stands keys rows rest) ≡ true → NumbersFit keys
numbers_fit keys rows rest long w i h here =
    let m = Memᴰ.map (slot_at rows) (mem-at keys i 0 (omega arith)) in
    (whole-rules (stands keys rows rest) w).numbers_fit (slot_at rows (get_or keys i 0)) (Memᴰ.append_left (slot_at rows rest.lease ∷ []) m) here

-- Where out looked, read back.

due-some : (o : Option ℕ) (w : Bool) (i : ℕ) → Ok (Some i) ≡ due_or_none o w → o ≡ Some i
due-some (Some j) w i e = cc
due-some None true i e = cc
due-some None false i e = cc

due-waits : (o : Option ℕ) (w : Bool) → Ok None ≡ due_or_none o w → (o ≡ None) × (w ≡ true)
due-waits (Some j) w e = cc
due-waits None true e = (refl, refl)
due-waits None false e = cc

due-ends : (o : Option ℕ) (w : Bool) (n : NoMoreOutput) → Err n ≡ due_or_none o w → (o ≡ None) × (w ≡ false)
due-ends (Some j) w n e = cc
due-ends None true n e = cc
due-ends None false n e = (refl, refl)

module _ (keys : List ℕ) (rest : Rest) (long : length keys ≡ slots) where
  abbrev due : ℕ
  due = lowest (key_due rest.poc_next_output) keys

  pub due-fits : NumbersFit keys → due < slots → key_number (get_or keys due 0) ≤ highest_poc
  due-fits fit h =
      let k : ℕ = get_or keys due 0 in
      let p = lowest-passes 0 (key_due rest.poc_next_output) keys (omega arith) in
      fit due h (and_left (key_present k) (key_out k) (and_left (key_wanted k) (leb (key_number k) rest.poc_next_output) p))

  abbrev at : Option ℕ
  at = position (key_due rest.poc_next_output) keys

  found-due : (i : ℕ) → Ok (Some i) ≡ due_place rest.poc_next_output keys → (due ≡ i) × (i < slots)
  found-due i e =
      let f = found-here (key_due rest.poc_next_output) keys i (due-some at (any_of key_wanted keys) i e) in
      (f.0, omega (arith, f.1))

  pub found-fits : NumbersFit keys → (i : ℕ) → Ok (Some i) ≡ due_place rest.poc_next_output keys → key_number (get_or keys i 0) ≤ highest_poc
  found-fits fit i e =
      let f = found-due i e in
      subst (λ (j : ℕ). key_number (get_or keys j 0) ≤ highest_poc) f.0 (due-fits fit (omega (arith, f.0, f.1)))

  module _ (rows : List ℕ) (rows_long : length rows ≡ rows_length) where
    abbrev pm : EvcPm
    pm = stands keys rows rest

    sized : Sized keys rows
    sized = record { slots_long = long; rows_long = rows_long }

    pub on-due : due < slots
        → Calls (Ok (Answer.Picture (key_buffer (get_or keys due 0)) (key_number (get_or keys due 0)))) keys rows rest
        (set keys due (key_handed_over (get_or keys due 0))) rows (with_output_of (get_or keys due 0) rest)
        (out_whole (stands keys rows rest))
    on-due h =
        let k : ℕ = get_or keys due 0 in
        let at : get_or (map (slot_at rows) keys) due no_slot ≡ slot_at rows k = map_at (slot_at rows) keys due 0 no_slot (omega arith) in
        let place : due_slot pm ≡ due = map-lowest (slot_at rows) (is_due rest.poc_next_output) keys in
        let some : some_due pm ≡ true =
        map-any (slot_at rows) (is_due rest.poc_next_output) keys ∙ found-any (key_due rest.poc_next_output) keys (omega arith) in
        calls_by (out-due pm some ∙ ap (hand_over pm) place) (calls-picture (λ b no. refl) (record {
          answers = ap Ok (ap shown (sym at));
          stands_for = rw (map-set (slot_at rows) keys due (key_handed_over k), slot-handed-over rows k, at) refl;
          lists_stay = refl;
          still_sized = record { slots_long = length-set keys due (key_handed_over k) ∙ long; rows_long = rows_long };
        }))

    module _ (none : slots ≤ due) where
      none-due : some_due pm ≡ false
      none-due = map-any (slot_at rows) (is_due rest.poc_next_output) keys ∙ lowest-none 0 (key_due rest.poc_next_output) keys (omega arith)

      pub on-not-yet : any_of key_wanted keys ≡ true
          → Calls (Ok Answer.NotYet) keys rows rest keys rows rest (out_whole (stands keys rows rest))
      on-not-yet some =
          calls_by (out-none-due pm none-due) (record {
            comes = record { answers = rw (map-any (slot_at rows) is_wanted keys ∙ some) refl; stands_for = refl; lists_stay = refl; still_sized = sized };
            other_rows = λ b no. refl;
            untouched = λ why e. let z : ◌≡◌ {A = ℕ} 0 1 = cc in absurd (omega arith);
          })

      pub on-no-more : any_of key_wanted keys ≡ false
          → Calls (Ok Answer.NoMore) keys rows rest keys rows rest (out_whole (stands keys rows rest))
      on-no-more nothing =
          calls_by (out-none-due pm none-due) (record {
            comes = record { answers = rw (map-any (slot_at rows) is_wanted keys ∙ nothing) refl; stands_for = refl; lists_stay = refl; still_sized = sized };
            other_rows = λ b no. refl;
            untouched = λ why e. let z : ◌≡◌ {A = ℕ} 0 1 = cc in absurd (omega arith);
          })

    pub on-found : (i : ℕ) → Ok (Some i) ≡ due_place rest.poc_next_output keys
        → Calls (Ok (Answer.Picture (key_buffer (get_or keys i 0)) (key_number (get_or keys i 0)))) keys rows rest
        (set keys i (key_handed_over (get_or keys i 0))) rows (with_output_of (get_or keys i 0) rest)
        (out_whole (stands keys rows rest))
    on-found i e =
        let f = found-due i e in
        subst (λ (j : ℕ).
        Calls (Ok (Answer.Picture (key_buffer (get_or keys j 0)) (key_number (get_or keys j 0)))) keys rows rest
        (set keys j (key_handed_over (get_or keys j 0))) rows (with_output_of (get_or keys j 0) rest)
        (out_whole (stands keys rows rest)))
        f.0
        (on-due (omega (arith, f.0, f.1)))

    pub on-waits : Ok None ≡ due_place rest.poc_next_output keys → Calls (Ok Answer.NotYet) keys rows rest keys rows rest (out_whole (stands keys rows rest))
    on-waits e =
        let f = due-waits at (any_of key_wanted keys) e in
        on-not-yet (omega (arith, none-here (key_due rest.poc_next_output) keys f.0)) f.1

    pub on-ends : (n : NoMoreOutput) → Err n ≡ due_place rest.poc_next_output keys
        → Calls (Ok Answer.NoMore) keys rows rest keys rows rest (out_whole (stands keys rows rest))
    on-ends n e =
        let f = due-ends at (any_of key_wanted keys) n e in
        on-no-more (omega (arith, none-here (key_due rest.poc_next_output) keys f.0)) f.1
