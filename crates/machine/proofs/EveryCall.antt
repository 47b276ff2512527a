-- What holds of every call and every line, from the laws of each call.
-- Assumes nothing.
use Rattle.std.specs.Prelude.{Result, Ok, Err, Some, None}
use Prim.Native.Nat.{ℕ}
use native.Mathlib.Omega.{arith}
use mathlib.Core.Path.{◌≡◌, refl, sym, ap, ◌∙◌}
use mathlib.Core.Bool.{true, true≢false}
use mathlib.Core.List.{List}
use lib.ListN.{length, length-set}
use Rattle.def.specs.declared.{PocVal.PocVal, EvcPm.EvcPm, EvcRefP.EvcRefP, EvcPoc.EvcPoc, PutCall.PutCall, RefpCall.RefpCall}
use Rattle.def.specs.Results.{RefpResult}
use Rattle.def.specs.declared.Answer.{Answer}
use Rattle.def.specs.declared.Answer.TheVariants.{Done, Picture, NotYet, NoMore, Counts}
use Rattle.def.specs.declared.Refusal.{Refusal}
use Rattle.def.specs.declared.Refusal.TheVariants.{StateNotWhole}
use Rattle.def.specs.Results.{PmResult}
use Rattle.def.specs.Refusals.{refusal_number}
use Rattle.def.proofs.Refusals.{refusals-in-use, numbers-differ}
use Rattle.def.specs.State.{slots}
use Rattle.poc.specs.Why.{Refusing}
use Rattle.poc.proofs.Why.{derive-why, derive-refused}
use Rattle.whole.specs.Whole.{whole}
use Rattle.whole.proofs.Laws.{new-whole}
use Rattle.refp.specs.Lists.{lists}
use Rattle.refp.specs.Claims.{ListsReason}
use Rattle.refp.specs.Claims as lists-claims
use Rattle.refp.proofs.ListLaws.{lists-why, lists-refused-unchanged, lists-stay-whole, only-counts}
use Rattle.picman.specs.{Put.put, Put.remarked}
use Rattle.picman.specs.Claims.{InitTurnedDown, GetTurnedDown, PutTurnedDown, OutTurnedDown}
use Rattle.picman.specs.Claims as claims
use Rattle.picman.proofs.InitLaws.{init-refused, init-why, init-keeps-whole, init-keeps-slots}
use Rattle.picman.proofs.GetLaws.{get-refused, get-why}
use Rattle.picman.proofs.GetKeeps.{get-keeps-whole, get-keeps-size}
use Rattle.picman.proofs.OutLaws.{out-refused, out-why, out-keeps-whole, out-keeps-size}
use Rattle.picman.proofs.Keeps.{remarked-size}
use Rattle.picman.proofs.PutLaws.{Puts, puts, put-refused, put-why, put-safe}
use Rattle.picman.proofs.PutLaws as put-laws
use Rattle.line.specs.declared.Call.TheVariants.{Init, GetEmptyPic, PutPic, OutPic, RefpInit, PocDerivation}
use Rattle.line.specs.Answers.{reply_of}
use Rattle.machine.specs.declared.Machine.{Machine}
use Rattle.machine.specs.Step.{put_call_of, refp_call_of, derived_reply, step, step_line}
use Rattle.machine.specs.Claims.{TurnedDown, CallUnchanged, LineUnchanged, CallSound, LineSound, NewSound}
use Rattle.machine.specs.Claims.{CallNotSeven, LineNotSeven, OfNoLine, CallGivesNone, LineGivesNone}
use Rattle.machine.specs.Claims.OfNoLine.{same_number, no_such_place, bad_length, bad_plan, no_room}

-- ---- a call that is turned down

pub refused-answer : {P : Type 0} (call : ℕ) (a : Result Answer Refusal) → TurnedDown (reply_of call a) → ((why : Refusal) → a ≡ Err why → P) → P
refused-answer call (Ok Done) t f = absurd (omega (arith, t.0))
refused-answer call (Ok (Picture b n)) t f = absurd (omega (arith, t.0))
refused-answer call (Ok NotYet) t f = absurd (omega (arith, t.1))
refused-answer call (Ok NoMore) t f = absurd (omega (arith, t.1))
refused-answer call (Ok (Counts n m)) t f = absurd (omega (arith, t.0))
refused-answer call (Err why) t f = f why refl

pub refused-number : {P : Type 0} (a : Result PocVal Refusal) → TurnedDown (derived_reply 6 a) → ((why : Refusal) → a ≡ Err why → P) → P
refused-number (Ok n) t f = absurd (omega (arith, t.0))
refused-number (Err why) t f = f why refl

-- the machine with another state, and with another record
abbrev with_state : Machine → EvcPm → Machine
with_state m q = record { pm = q; refp = m.refp; poc = m.poc }

abbrev with_record : Machine → EvcPoc → Machine
with_record m p = record { pm = m.pm; refp = m.refp; poc = p }

pub call-unchanged : CallUnchanged
unfolding step
call-unchanged m (Init size refs) t = refused-answer 1 _ t (λ why e. ap (with_state m) (init-refused m.pm size refs why e))
call-unchanged m GetEmptyPic t = refused-answer 2 _ t (λ why e. ap (with_state m) (get-refused m.pm why e))
call-unchanged m (PutPic flags poc tid gap) t =
    refused-answer 3 _ t (λ why e. ap (with_state m) (put-refused m.pm m.refp (put_call_of flags poc tid gap) why e))
call-unchanged m OutPic t = refused-answer 4 _ t (λ why e. ap (with_state m) (out-refused m.pm why e))
call-unchanged m (RefpInit slice poc layer intra limit) t =
    refused-answer 5 _ t
    (λ why e. ap (λ (r : RefpResult). record { pm = r.pm; refp = r.refp; poc = m.poc })
    (lists-refused-unchanged m.pm m.refp (refp_call_of slice poc layer intra limit) why e))
call-unchanged m (PocDerivation L t) d = refused-number _ d (λ why e. ap (with_record m) (derive-refused L t m.poc why e))

pub line-unchanged : LineUnchanged
unfolding step_line
line-unchanged m (Some c) t = call-unchanged m c t
line-unchanged m None t = refl

-- ---- a whole state stays whole

put-keeps-size : (pm : EvcPm) (refp : List EvcRefP) (c : PutCall) → whole pm ≡ true → length pm.pic ≡ slots → length (put pm refp c).pm.pic ≡ slots
put-keeps-size pm refp c v size = pick (puts pm refp c)
  where
    pick : {r : PmResult} → Puts pm (remarked c pm) refp c r → length r.pm.pic ≡ slots
    pick (put-laws.not_whole w) = size
    pick (put-laws.no_picture w p) = remarked-size c pm w size
    pick (put-laws.too_high w p t) = size
    pick (put-laws.no-lease w p t l) = size
    pick (put-laws.slot-taken w p t l o) = size
    pick (put-laws.placed w p t l o) = length-set (remarked c pm).pic _ _ ∙ remarked-size c pm w size

lists-keep-slots : (pm : EvcPm) (refp : List EvcRefP) (c : RefpCall) → (lists pm refp c).pm.pic ≡ pm.pic
lists-keep-slots pm refp c = ap (λ (q : EvcPm). q.pic) (only-counts pm refp c)

pub call-sound : CallSound
unfolding step
call-sound m (Init size refs) s =
    record {
      whole_state = init-keeps-whole m.pm size refs s.whole_state;
      all_slots = ap length (init-keeps-slots m.pm size refs) ∙ s.all_slots;
    }
call-sound m GetEmptyPic s =
    record { whole_state = get-keeps-whole m.pm s.all_slots s.whole_state; all_slots = get-keeps-size m.pm s.all_slots }
call-sound m (PutPic flags poc tid gap) s =
    let c = put_call_of flags poc tid gap in
    record {
      whole_state = (put-safe m.pm m.refp c s.all_slots).stays_whole s.whole_state;
      all_slots = put-keeps-size m.pm m.refp c s.whole_state s.all_slots;
    }
call-sound m OutPic s =
    record { whole_state = out-keeps-whole m.pm s.all_slots s.whole_state; all_slots = out-keeps-size m.pm s.all_slots }
call-sound m (RefpInit slice poc layer intra limit) s =
    let c = refp_call_of slice poc layer intra limit in
    record {
      whole_state = lists-stay-whole m.pm m.refp c s.whole_state;
      all_slots = ap length (lists-keep-slots m.pm m.refp c) ∙ s.all_slots;
    }
call-sound m (PocDerivation L t) s = record { whole_state = s.whole_state; all_slots = s.all_slots }

pub line-sound : LineSound
unfolding step_line
line-sound m (Some c) s = call-sound m c s
line-sound m None s = s

pub new-sound : NewSound
new-sound = record { whole_state = new-whole; all_slots = refl }

-- ---- refusals 7 and 19

-- a status tells the refusal
refused-by : (why : Refusal) (call : ℕ) (a : Result Answer Refusal) → (reply_of call a).status ≡ refusal_number why → a ≡ Err why
refused-by why call (Ok Done) e = let r = refusals-in-use why in absurd (omega (arith, r.0))
refused-by why call (Ok (Picture b n)) e = let r = refusals-in-use why in absurd (omega (arith, r.0))
refused-by why call (Ok NotYet) e = let r = refusals-in-use why in absurd (omega (arith, r.1))
refused-by why call (Ok NoMore) e = let r = refusals-in-use why in absurd (omega (arith, r.1))
refused-by why call (Ok (Counts n m)) e = let r = refusals-in-use why in absurd (omega (arith, r.0))
refused-by why call (Err w) e = ap Err (numbers-differ w why e)

number-refused-by : (why : Refusal) (a : Result PocVal Refusal) → (derived_reply 6 a).status ≡ refusal_number why → a ≡ Err why
number-refused-by why (Ok n) e = let r = refusals-in-use why in absurd (omega (arith, r.0))
number-refused-by why (Err w) e = ap Err (numbers-differ w why e)

pub call-not-seven : CallNotSeven
unfolding step
call-not-seven m (Init size refs) s e = by ((init-why m.pm size refs StateNotWhole).0 (refused-by StateNotWhole 1 _ e))
  where
    by : InitTurnedDown m.pm size refs StateNotWhole → ⊥
    by (claims.InitTurnedDown.is_not_whole w) = true≢false (sym s.whole_state ∙ w)
call-not-seven m GetEmptyPic s e = by ((get-why m.pm StateNotWhole).0 (refused-by StateNotWhole 2 _ e))
  where
    by : GetTurnedDown m.pm StateNotWhole → ⊥
    by (claims.GetTurnedDown.is_not_whole w) = true≢false (sym s.whole_state ∙ w)
call-not-seven m (PutPic flags poc tid gap) s e =
    by ((put-why m.pm m.refp (put_call_of flags poc tid gap) StateNotWhole).0 (refused-by StateNotWhole 3 _ e))
  where
    by : PutTurnedDown m.pm (put_call_of flags poc tid gap) StateNotWhole → ⊥
    by (claims.PutTurnedDown.is_not_whole w) = true≢false (sym s.whole_state ∙ w)
call-not-seven m OutPic s e = by ((out-why m.pm StateNotWhole).0 (refused-by StateNotWhole 4 _ e))
  where
    by : OutTurnedDown m.pm StateNotWhole → ⊥
    by (claims.OutTurnedDown.is_not_whole w) = true≢false (sym s.whole_state ∙ w)
call-not-seven m (RefpInit slice poc layer intra limit) s e =
    by ((lists-why m.pm m.refp (refp_call_of slice poc layer intra limit) StateNotWhole).0 (refused-by StateNotWhole 5 _ e))
  where
    by : ListsReason m.pm (refp_call_of slice poc layer intra limit) StateNotWhole → ⊥
    by (lists-claims.not_whole w) = true≢false (sym s.whole_state ∙ w)
call-not-seven m (PocDerivation L t) s e = by ((derive-why L t m.poc StateNotWhole).0 (number-refused-by StateNotWhole _ e))
  where
    by : Refusing L t m.poc StateNotWhole → ⊥
    by = elim [ ]

pub line-not-seven : LineNotSeven
unfolding step_line
line-not-seven m (Some c) s e = call-not-seven m c s e
line-not-seven m None s e = absurd (omega arith)

-- what turns a call down is none of them
init-none : {pm : EvcPm} {size refs : ℕ} {why : Refusal} → OfNoLine why → InitTurnedDown pm size refs why → ⊥
init-none same_number = elim [ ]
init-none no_such_place = elim [ ]
init-none bad_length = elim [ ]
init-none bad_plan = elim [ ]
init-none no_room = elim [ ]

get_none : {pm : EvcPm} {why : Refusal} → OfNoLine why → GetTurnedDown pm why → ⊥
get_none same_number = elim [ ]
get_none no_such_place = elim [ ]
get_none bad_length = elim [ ]
get_none bad_plan = elim [ ]
get_none no_room = elim [ ]

put-none : {pm : EvcPm} {c : PutCall} {why : Refusal} → OfNoLine why → PutTurnedDown pm c why → ⊥
put-none same_number = elim [ ]
put-none no_such_place = elim [ ]
put-none bad_length = elim [ ]
put-none bad_plan = elim [ ]
put-none no_room = elim [ ]

out_none : {pm : EvcPm} {why : Refusal} → OfNoLine why → OutTurnedDown pm why → ⊥
out_none same_number = elim [ ]
out_none no_such_place = elim [ ]
out_none bad_length = elim [ ]
out_none bad_plan = elim [ ]
out_none no_room = elim [ ]

lists-none : {pm : EvcPm} {c : RefpCall} {why : Refusal} → OfNoLine why → ListsReason pm c why → ⊥
lists-none same_number = elim [ ]
lists-none no_such_place = elim [ ]
lists-none bad_length = elim [ ]
lists-none bad_plan = elim [ ]
lists-none no_room = elim [ ]

derive-none : {L t : ℕ} {r : EvcPoc} {why : Refusal} → OfNoLine why → Refusing L t r why → ⊥
derive-none same_number = elim [ ]
derive-none no_such_place = elim [ ]
derive-none bad_length = elim [ ]
derive-none bad_plan = elim [ ]
derive-none no_room = elim [ ]

pub call-gives-none : CallGivesNone
unfolding step
call-gives-none m (Init size refs) why o e = init-none o ((init-why m.pm size refs why).0 (refused-by why 1 _ e))
call-gives-none m GetEmptyPic why o e = get_none o ((get-why m.pm why).0 (refused-by why 2 _ e))
call-gives-none m (PutPic flags poc tid gap) why o e =
    put-none o ((put-why m.pm m.refp (put_call_of flags poc tid gap) why).0 (refused-by why 3 _ e))
call-gives-none m OutPic why o e = out_none o ((out-why m.pm why).0 (refused-by why 4 _ e))
call-gives-none m (RefpInit slice poc layer intra limit) why o e =
    lists-none o ((lists-why m.pm m.refp (refp_call_of slice poc layer intra limit) why).0 (refused-by why 5 _ e))
call-gives-none m (PocDerivation L t) why o e = derive-none o ((derive-why L t m.poc why).0 (number-refused-by why _ e))

pub line-gives-none : LineGivesNone
unfolding step_line
line-gives-none m (Some c) why o e = call-gives-none m c why o e
line-gives-none m None _ same_number e = absurd (omega arith)
line-gives-none m None _ no_such_place e = absurd (omega arith)
line-gives-none m None _ bad_length e = absurd (omega arith)
line-gives-none m None _ bad_plan e = absurd (omega arith)
line-gives-none m None _ no_room e = absurd (omega arith)
