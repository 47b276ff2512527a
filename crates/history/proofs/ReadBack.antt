-- What the program prints is read back, since every reply of a run from the new machine fits its line: the buffers and numbers that a whole
-- state holds do, and so do its counts and a derived number.
-- Assumes nothing.
use Rattle.std.specs.Prelude.{Result, Ok, Err, Option, Some, None}
use Prim.Native.Nat.{ℕ, ◌^◌, ◌≤◌, ◌<◌}
use mathlib.Core.Path.{◌≡◌, refl, ap, ◌∙◌, subst}
use mathlib.Core.Bool.{true, not, ◌&&◌}
use mathlib.Core.List.Memᴰ
use mathlib.Core.List.{List, [], ◌∷◌, map, flat_map, Memᴰ}
use native.Mathlib.Omega.{arith}
use lib.ListN.{length, get_or}
use Rattle.seq.specs.Lists.{lowest}
use Rattle.seq.proofs.Tests.{and_left}
use Rattle.seq.proofs.Walks.{lowest-passes, any_found}
use Rattle.seq.proofs.Members.{mem-at, select-mem}
use Rattle.def.specs.declared.{PocVal.PocVal, Refusal.Refusal, Slot.Slot, EvcPm.EvcPm, EvcPoc.EvcPoc, EvcRefP.EvcRefP, PutCall.PutCall, RefpCall.RefpCall}
use Rattle.def.specs.declared.{Answer.Answer}
use Rattle.def.specs.Results.{RefpResult, PmResult}
use Rattle.def.specs.State.{slots, list_places, no_slot, is_idle, with_counts}
use Rattle.def.proofs.Refusals.{refusals-in-use}
use Rattle.def.proofs.WordLaws.{complement-fits}
use Rattle.poc.specs.PictureNumber.{derive}
use Rattle.poc.specs.Distance as poc
use Rattle.whole.specs.Whole.{whole, is_present, buffer_of, leases, places}
use Rattle.whole.proofs.Laws.{whole-rules}
use Rattle.refp.specs.Lists.{lists}
use Rattle.refp.proofs.ListLaws as list-laws
use Rattle.picman.specs.Get.{shown, get}
use Rattle.picman.specs.Put.{remarked, put}
use Rattle.picman.specs.Out.{out}
use Rattle.picman.specs.Init.{init}
use Rattle.picman.proofs.GetLaws as get-laws
use Rattle.picman.proofs.GetKeeps.{fresh-in-range}
use Rattle.picman.proofs.PutLaws as put-laws
use Rattle.picman.proofs.Keeps.{remarked-lease}
use Rattle.picman.proofs.OutCases.{due_slot, due_in, due-present}
use Rattle.picman.proofs.OutLaws as out-laws
use Rattle.picman.proofs.InitLaws as init-laws
use Rattle.line.specs.declared.Call.{Call}
use Rattle.line.specs.{Calls.read_line, Answers.answer_line, Answers.reply_of, Claims.ReplyFits, Lines.lines_from}
use Rattle.reader.specs.Reading.{reads_from}
use Rattle.reader.specs.Claims.{AllFit}
use Rattle.reader.proofs.Claims.{printed-is-read}
use Rattle.machine.specs.declared.Machine.{Machine}
use Rattle.machine.specs.Step.{new_machine, put_call_of, refp_call_of, derived_reply, step, step_line}
use Rattle.machine.specs.Claims.{Sound}
use Rattle.machine.proofs.EveryCall.{line-sound, new-sound}
use Rattle.run.specs.Run.{program}
use Rattle.history.specs.Files.{Turn, turns, replies, ProgramIsRead}
use Rattle.history.proofs.Files.{program-shows}
use Rattle.history.proofs.Derived.{Fits, derived-fits}

-- ---- what an answer shows

abbrev Shows : Result Answer Refusal → Type 0
Shows (Ok Answer.Done) = Unit {0}
Shows (Ok (Answer.Picture buf poc)) = (buf < 256) × (poc < 2 ^ 32)
Shows (Ok Answer.NotYet) = Unit {0}
Shows (Ok Answer.NoMore) = Unit {0}
Shows (Ok (Answer.Counts forward backward)) = (forward ≤ list_places) × (backward ≤ list_places)
Shows (Err why) = Unit {0}

reply-fits : (call : ℕ) → call < 256 → (a : Result Answer Refusal) → Shows a → ReplyFits (reply_of call a)
reply-fits call h (Ok Answer.Done) s = record { call = h; status = omega arith; buf = omega arith; value = omega arith }
reply-fits call h (Ok (Answer.Picture buf poc)) s = record { call = h; status = omega arith; buf = s.0; value = s.1 }
reply-fits call h (Ok Answer.NotYet) s = record { call = h; status = omega arith; buf = omega arith; value = omega arith }
reply-fits call h (Ok Answer.NoMore) s = record { call = h; status = omega arith; buf = omega arith; value = omega arith }
reply-fits call h (Ok (Answer.Counts forward backward)) s =
    record { call = h; status = omega arith; buf = omega arith; value = omega (arith, s.0, s.1) }
reply-fits call h (Err why) s =
    record { call = h; status = omega (arith, (refusals-in-use why).1); buf = omega arith; value = omega arith }

-- ---- each call's answer on a whole state

module _ (pm : EvcPm) (w : whole pm ≡ true) where
  held-shows : (s : Slot) → Memᴰ s (places pm) → s.present ≡ true → Shows (Ok (shown s))
  held-shows s m here =
      let v = whole-rules pm w in
      let b = v.buffers_below s.buf (Memᴰ.map buffer_of (select-mem is_present (places pm) m here)) in
      let p = v.numbers_fit s m here in
      (omega arith, omega arith)

  init-shows : (size refs : ℕ) → Shows (init pm size refs).answer
  init-shows size refs = pick (init-laws.inits pm size refs)
    where
      pick : {r : PmResult} → init-laws.Inits pm size refs r → Shows r.answer
      pick (init-laws.not_whole w) = tt
      pick (init-laws.too-big w t) = tt
      pick (init-laws.done w s r) = tt

  get-shows : length pm.pic ≡ slots → Shows (get pm).answer
  get-shows size = pick (get-laws.gets pm)
    where
      pick : {r : PmResult} → get-laws.Gets pm r → Shows r.answer
      pick (get-laws.not_whole n) = tt
      pick (get-laws.leased n l) = tt
      pick (get-laws.idle n l some) =
          let found = any_found is_idle pm.pic some in
          let s = get_or pm.pic (lowest is_idle pm.pic) no_slot in
          held-shows s (Memᴰ.append_left (leases pm) (mem-at pm.pic (lowest is_idle pm.pic) no_slot found))
          (and_left s.present (not s.pic.is_ref && not s.pic.need_for_out) (lowest-passes no_slot is_idle pm.pic found))
      pick (get-laws.full n l none f) = tt
      pick (get-laws.made n l none room) = let b = fresh-in-range pm w size l room in (omega arith, omega arith)

  put-shows : (refp : List EvcRefP) (c : PutCall) → length pm.pic ≡ slots → Shows (put pm refp c).answer
  put-shows refp c size = pick (put-laws.puts pm refp c)
    where
      pick : {r : PmResult} → put-laws.Puts pm (remarked c pm) refp c r → Shows r.answer
      pick (put-laws.not_whole n) = tt
      pick (put-laws.no_picture n p) = tt
      pick (put-laws.too_high n p t) = tt
      pick (put-laws.no-lease n p t l) = tt
      pick (put-laws.slot-taken n p t l o) = tt
      pick (put-laws.placed n p t l o) =
          let same = ap (λ (s : Slot). s.buf) (remarked-lease c pm w size) in
          let b = (held-shows pm.pic_lease (Memᴰ.append_right pm.pic (Memᴰ.head refl)) l).0 in
          (omega arith, omega arith)

  out-shows : Shows (out pm).answer
  out-shows = pick (out-laws.outs pm)
    where
      pick : {r : PmResult} → out-laws.Outs pm r → Shows r.answer
      pick (out-laws.not_whole n) = tt
      pick (out-laws.due n some) =
          held-shows (get_or pm.pic (due_slot pm) no_slot) (Memᴰ.append_left (leases pm) (mem-at pm.pic (due_slot pm) no_slot (due_in pm some)))
          (due-present pm some)
      pick (out-laws.not_yet n h a) = tt
      pick (out-laws.no_more n h a) = tt

  lists-shows : (refp : List EvcRefP) (c : RefpCall) → Shows (lists pm refp c).answer
  lists-shows refp c = pick (list-laws.lists-end pm refp c) (list-laws.lists-stay-whole pm refp c w)
    where
      pick : {r : RefpResult} → list-laws.ListsEnd pm refp c r → whole r.pm ≡ true → Shows r.answer
      pick (list-laws.refuses why r) v = tt
      pick (list-laws.no-list n i) v = let u = whole-rules pm w in (u.forward_count, u.backward_count)
      pick (list-laws.builds a fwd bwd k) v =
          let u = whole-rules (with_counts pm (length fwd) (length bwd)) v in
          (u.forward_count, u.backward_count)

number_fits : (c : poc.Call) (r : EvcPoc) (a : Result PocVal Refusal) → Fits c r a → ReplyFits (derived_reply 6 a)
number_fits c r (Ok n) f =
    record { call = omega arith; status = omega arith; buf = omega arith; value = complement-fits n.0 f }
number_fits c r (Err why) f =
    record { call = omega arith; status = omega (arith, (refusals-in-use why).1); buf = omega arith; value = omega arith }

-- ---- every line's reply

call_fits : (m : Machine) (c : Call) → Sound m → ReplyFits (step m c).reply
unfolding step
call_fits m (Call.Init size refs) s = reply-fits 1 (omega arith) (init m.pm size refs).answer (init-shows m.pm s.whole_state size refs)
call_fits m Call.GetEmptyPic s = reply-fits 2 (omega arith) (get m.pm).answer (get-shows m.pm s.whole_state s.all_slots)
call_fits m (Call.PutPic flags poc tid gap) s =
    let c = put_call_of flags poc tid gap in
    reply-fits 3 (omega arith) (put m.pm m.refp c).answer (put-shows m.pm s.whole_state m.refp c s.all_slots)
call_fits m Call.OutPic s = reply-fits 4 (omega arith) (out m.pm).answer (out-shows m.pm s.whole_state)
call_fits m (Call.RefpInit slice poc layer intra limit) s =
    let c = refp_call_of slice poc layer intra limit in
    reply-fits 5 (omega arith) (lists m.pm m.refp c).answer (lists-shows m.pm s.whole_state m.refp c)
call_fits m (Call.PocDerivation L t) s =
    let c : poc.Call = record { log2 = L; layer = t } in
    number_fits c m.poc (derive L t m.poc).answer (derived-fits c m.poc)

line-fits : (m : Machine) (l : Option Call) → Sound m → ReplyFits (step_line m l).reply
unfolding step_line
line-fits m (Some c) s = call_fits m c s
line-fits m None s = record { call = omega arith; status = omega arith; buf = omega arith; value = omega arith }

run_fits : (m : Machine) (ls : List (Option Call)) → Sound m → AllFit (replies (turns m ls))
unfolding AllFit turns
run_fits m [] s = tt
run_fits m (l ∷ ls) s = (line-fits m l s, run_fits (step_line m l).machine ls (line-sound m l s))

-- ---- the claim

reply-lines : (ts : List Turn) → flat_map (λ (t : Turn). answer_line t.reply) ts ≡ flat_map answer_line (replies ts)
unfolding flat_map
reply-lines [] = refl
reply-lines (t ∷ ts) = rw (reply-lines ts) refl

pub program-is-read : ProgramIsRead
program-is-read input n h =
    let ts = turns new_machine (map read_line (lines_from [] input)) in
    let e : program input ≡ flat_map answer_line (replies ts) = program-shows input ∙ reply-lines ts in
    ap (λ (l : List ℕ). reads_from n l 0) e
    ∙ printed-is-read (replies ts) n (run_fits new_machine (map read_line (lines_from [] input)) new-sound) (subst (λ (l : List ℕ). length l ≤ n) e h)
