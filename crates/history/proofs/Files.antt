-- The claims on whole runs: line by line, what is put and wanted goes to the slots that wait, and what is handed over comes from them.
-- Assumes nothing.
use Rattle.std.specs.Prelude.{Option, Some, None, Result}
use Prim.Native.Nat.{ℕ, ◌+◌}
use mathlib.Core.Path.{◌≡◌, refl, ap}
use mathlib.Core.Bool.{Bool, true, false, not, ◌&&◌}
use mathlib.Core.Bool as Bool
use mathlib.Core.List.{List, [], ◌∷◌, map, flat_map}
use native.Mathlib.Omega.{arith}
use lib.Dec.{eqb}
use mir.Val.{bool_byte}
use Rattle.seq.specs.Lists.{count_if, select}
use Rattle.seq.proofs.Tests.{count-append, count-one}
use Rattle.seq.proofs.Distinct.{count-select-map, fewer-distinct}
use Rattle.def.specs.declared.{Slot.Slot, EvcPm.EvcPm, Answer.Answer, Refusal.Refusal}
use Rattle.def.specs.State.{is_wanted, is_idle, handed_over}
use Rattle.line.specs.declared.{Call.Call, Reply.Reply}
use Rattle.line.specs.{Calls.read_line, Answers.answer_line, Answers.reply_of}
use Rattle.machine.specs.declared.Machine.{Machine}
use Rattle.machine.specs.Step.{new_machine, flag, put_call_of, refp_call_of, step, step_line}
use Rattle.run.specs.Run.{answers_to, program}
use Rattle.line.specs.Lines.{lines_from}
use Rattle.machine.specs.Claims.{Sound}
use Rattle.machine.proofs.EveryCall.{line-sound, new-sound}
use Rattle.history.specs.Files.{Turn, turns, leaves, ProgramShows, OnePictureOneFile, FilesDiffer}
use Rattle.history.specs.Files.{if_so, put_number, out_number, put_numbers, out_numbers, waiting}
use Rattle.history.specs.Pictures.{Content}
use Rattle.history.proofs.Calls as acts
use Rattle.history.proofs.Calls.{Blind, GetActs, PutActs, OutActs, InitActs, get-acts, put-acts, out-acts, init-acts, lists-acts, refused-status}

-- ---- the slots that wait with number n

module _ (n : ℕ) where
  abbrev waits : Slot → Bool
  waits s = is_wanted s && eqb n s.pic.poc

  blind : Blind waits
  blind s = refl

  waiting-passing : (m : Machine) → count_if (eqb n) (waiting m) ≡ count_if waits m.pm.pic
  waiting-passing m = count-select-map is_wanted (λ (s : Slot). s.pic.poc) (eqb n) m.pm.pic

  -- an idle picture, one that is not there, and one that was handed over wait no more
  idle-not : (s : Slot) → is_idle s ≡ true → bool_byte (waits s) ≡ 0
  idle-not s e = pick s.present s.pic.is_ref s.pic.need_for_out e
    where
      pick : (here ref wanted : Bool) → (here && (not ref && not wanted)) ≡ true → bool_byte (here && wanted && eqb n s.pic.poc) ≡ 0
      pick false ref wanted e = refl
      pick true true wanted e = absurd (Bool.false≢true e)
      pick true false true e = absurd (Bool.false≢true e)
      pick true false false e = refl

  absent-not : (s : Slot) → s.present ≡ false → bool_byte (waits s) ≡ 0
  absent-not s e = rw e

  handed-not : (s : Slot) → bool_byte (waits (handed_over s)) ≡ 0
  handed-not s = pick s.present
    where
      pick : (here : Bool) → bool_byte (here && false && eqb n s.pic.poc) ≡ 0
      pick true = refl
      pick false = refl

  wanted-waits : (s : Slot) → is_wanted s ≡ true → waits s ≡ eqb n s.pic.poc
  wanted-waits s e = rw e

  if-so : (b : Bool) (k : ℕ) → count_if (eqb n) (if_so b k) ≡ bool_byte (b && eqb n k)
  unfolding count_if
  if-so true k = let o = count-one (eqb n) k [] in omega arith
  if-so false k = refl

  none : count_if (eqb n) [] ≡ 0
  unfolding count_if
  none = refl

  -- What a line with this reply does: what was put goes to those that wait, and what was handed over comes from them.
  abbrev Flows : List Slot → List Slot → Option Call → Reply → Type 0
  Flows xs ys l r = count_if (eqb n) (put_number l r) + count_if waits xs ≡ count_if (eqb n) (out_number l r) + count_if waits ys

  init-flows : (size refs : ℕ) {pm q : EvcPm} {a : Result Answer Refusal} → InitActs pm a q → Flows pm.pic q.pic (Some (Call.Init size refs)) (reply_of 1 a)
  init-flows size refs (acts.turned_down why) = refl
  init-flows size refs (acts.dropped l s) = rw s

  get-flows : {pm q : EvcPm} {a : Result Answer Refusal} → GetActs pm a q → Flows pm.pic q.pic (Some Call.GetEmptyPic) (reply_of 2 a)
  get-flows (acts.turned_down why) = refl
  get-flows (acts.took-idle s idle mem free l swap) = omega (arith, swap waits blind, idle-not s idle)
  get-flows (acts.made-new b new free l s) = rw s

  put-flows : (m : Machine) (flags poc tid gap : ℕ) {q : EvcPm} {a : Result Answer Refusal} → PutActs m.pm m.refp (put_call_of flags poc tid gap) a q
      → Flows m.pm.pic q.pic (Some (Call.PutPic flags poc tid gap)) (reply_of 3 a)
  put-flows m flags poc tid gap (acts.turned_down why) = rw (refused-status why) refl
  put-flows m flags poc tid gap (acts.marked-only bare l same) = rw bare (omega (arith, same waits blind))
  put-flows m flags poc tid gap (acts.stored old new some leased l gone here is wanted swap) =
      rw some (omega (arith, none, if-so (flag flags 2) poc, absent-not old gone, now, swap waits blind))
    where
      now : bool_byte (waits new) ≡ bool_byte (flag flags 2 && eqb n poc)
      now = rw (here, wanted, ap (λ (x : Content). x.poc) is)

  out-flows : {pm q : EvcPm} {a : Result Answer Refusal} → OutActs pm a q → Flows pm.pic q.pic (Some Call.OutPic) (reply_of 4 a)
  out-flows (acts.handed-none t) = rw t
  out-flows (acts.handed s wanted l swap) =
      omega (arith, none, if-so true s.pic.poc, handed-not s, ap bool_byte (wanted-waits s wanted), swap waits blind)

  call-flows : (m : Machine) (c : Call) → Sound m → Flows m.pm.pic (step m c).machine.pm.pic (Some c) (step m c).reply
  unfolding step
  call-flows m (Call.Init size refs) s = init-flows size refs (init-acts m.pm size refs)
  call-flows m Call.GetEmptyPic s = get-flows (get-acts m.pm s.all_slots)
  call-flows m (Call.PutPic flags poc tid gap) s = put-flows m flags poc tid gap (put-acts m.pm m.refp (put_call_of flags poc tid gap) s.all_slots)
  call-flows m Call.OutPic s = out-flows (out-acts m.pm s.all_slots)
  call-flows m (Call.RefpInit slice poc layer intra limit) s = rw (lists-acts m.pm m.refp (refp_call_of slice poc layer intra limit)).slots-stay
  call-flows m (Call.PocDerivation L t) s = refl

  line-flows : (m : Machine) (l : Option Call) → Sound m → Flows m.pm.pic (step_line m l).machine.pm.pic l (step_line m l).reply
  unfolding step_line
  line-flows m (Some c) s = call-flows m c s
  line-flows m None s = refl

  -- ---- line after line

  run-flows : (m : Machine) (ls : List (Option Call)) → Sound m
      → count_if (eqb n) (put_numbers (turns m ls)) + count_if waits m.pm.pic
      ≡ count_if (eqb n) (out_numbers (turns m ls)) + count_if waits (leaves m ls).pm.pic
  unfolding turns leaves flat_map
  run-flows m [] s = refl
  run-flows m (l ∷ ls) s =
      let r = (step_line m l).reply in
      let next = (step_line m l).machine in
      omega (
        arith,
        line-flows m l s,
        run-flows next ls (line-sound m l s),
        count-append (eqb n) (put_number l r) (put_numbers (turns next ls)),
        count-append (eqb n) (out_number l r) (out_numbers (turns next ls)),
      )

pub one-picture-one-file : OnePictureOneFile
unfolding count_if select
one-picture-one-file lines n =
    let nothing-waits : count_if (waits n) new_machine.pm.pic ≡ 0 = refl in
    omega (arith, run-flows n new_machine lines new-sound, waiting-passing n (leaves new_machine lines))

pub files-differ : FilesDiffer
files-differ lines d =
    let ts = turns new_machine lines in
    fewer-distinct (put_numbers ts) (out_numbers ts) (λ n. let e = one-picture-one-file lines n in omega arith) d

-- ---- what the program prints

program-turns : (m : Machine) (ls : List (List ℕ)) → answers_to m ls ≡ flat_map (λ (t : Turn). answer_line t.reply) (turns m (map read_line ls))
unfolding answers_to turns flat_map
program-turns m [] = refl
program-turns m (l ∷ ls) = rw (program-turns (step_line m (read_line l)).machine ls) refl

pub program-shows : ProgramShows
unfolding program
program-shows input = program-turns new_machine (lines_from [] input)
