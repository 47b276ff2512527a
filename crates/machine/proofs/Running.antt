-- From what a call of the core comes to, to what it does to the machine that the arrays stand for.
-- Assumes nothing.
use Rattle.std.specs.Prelude.{Option, Result, Ok, Err}
use mathlib.Core.Path.{◌≡◌, refl, sym, ap, ◌∙◌, subst}
use mathlib.Core.Bool.{Bool, true, false, cond, not, ◌||◌}
use mathlib.Core.Bool as Bool
use mathlib.Core.List.{List, ◌∷◌}
use Prim.Native.Nat.{ℕ, zero, suc, ◌+◌, ◌-◌, ◌*◌, ◌≤◌, ◌<◌}
use native.Mathlib.Omega.{arith}
use lib.Dec.{eqb}
use lib.ListN.{get_or, take, drop, length-map, replicate, get_or-replicate}
use Rattle.seq.specs.Lists.{entries_from, entries}
use Rattle.def.specs.declared.{EvcPm.EvcPm, EvcRefP.EvcRefP, PutCall.PutCall, RefpCall.RefpCall, Answer.Answer, Refusal.Refusal}
use Rattle.def.specs.Results.{RefpResult}
use Rattle.def.specs.State.{slots}
use Rattle.keys.specs.Keys.{row_length, row_count, head_row, number_row, entry_row, rows_length, row_at, slot_at, entry_at, stands, lists_in, Sized, Called}
use Rattle.keys.specs.declared.{Rest.Rest}
use Rattle.poc.specs.PictureNumber.{derive}
use Rattle.poc.proofs.Why.{derive-refused}
use Rattle.picman.specs.OnKeys.{Calls}
use Rattle.picman.specs.{Init.init, Init.init_whole, Get.get, Get.get_whole, Out.out, Out.out_whole, Put.put_marked, Put.put_whole, Put.put}
use Rattle.refp.specs.Lists.{lists_whole, lists}
use Rattle.refp.specs.Running.{ListsCame}
use Rattle.whole.specs.Whole.{whole}
use Rattle.line.specs.declared.{Call.Call, Reply.Reply}
use Rattle.line.specs.declared.Call.TheVariants.{Init, GetEmptyPic, PutPic, OutPic, RefpInit, PocDerivation}
use Rattle.def.specs.declared.Refusal.TheVariants.{StateNotWhole}
use Rattle.def.specs.Results.{PmResult}
use Rattle.line.specs.Answers.{reply_of}
use Rattle.machine.specs.declared.{Machine.Machine, Scalars.Scalars}
use Rattle.machine.specs.Step.{new_ref_p, new_lists, new_machine, derived_reply, put_call_of, refp_call_of, stepped, on_state, on_lists, on_record, step, step_line}
use Rattle.machine.specs.Running.{machine_in, new_scalars, reads_state, call_byte, is_ready, rows_kept, Runs, CallRoom, Makes}
use Rattle.machine.specs.Claims.{Sound}
use Rattle.machine.proofs.EveryCall.{refused-answer, refused-number, line-sound}

pub sound-in : {keys rows : List ℕ} {s : Scalars} → Runs keys rows s → Sound (machine_in keys rows s)
sound-in {keys} {rows} r = record { whole_state = r.whole_state; all_slots = length-map keys (slot_at rows) ∙ r.sized.slots_long }

-- ---- the new machine is what arrays of zeros and the new scalars stand for

zeros-dropped : (i n : ℕ) → drop {A = ℕ} i (replicate n 0) ≡ replicate (n - i) 0
zeros-dropped zero n = let e : n - 0 ≡ n = omega arith in rw e refl
zeros-dropped (suc i) zero = let e : 0 - suc i ≡ 0 = omega arith in rw e refl
zeros-dropped (suc i) (suc n) = let e : suc n - suc i ≡ n - i = omega arith in rw e (zeros-dropped i n)

zeros-taken : (i n : ℕ) → i ≤ n → take {A = ℕ} i (replicate n 0) ≡ replicate i 0
zeros-taken zero n h = refl
zeros-taken (suc i) zero h = absurd (omega arith)
zeros-taken (suc i) (suc n) h = ap {B = List ℕ} (λ l. 0 ∷ l) (zeros-taken i n (omega arith))

same_entries : {A : Type 0} (rule : ℕ → A) (x : A) (i n : ℕ) → ((k : ℕ) → k < i + n → rule k ≡ x) → entries_from rule i n ≡ replicate n x
unfolding entries_from
same_entries rule x i zero h = refl
same_entries rule x i (suc n) h = rw (h i (omega arith), same_entries rule x (suc i) n (λ k l. h k (omega arith)))

module _ (rows : List ℕ) (e : rows ≡ replicate rows_length 0) where
  new-entry : (j : ℕ) → j < 42 → entry_at rows j ≡ new_ref_p
  unfolding row_at
  new-entry j h =
      let head : get_or rows (row_length * head_row + j) 0 ≡ 0 =
      rw e (get_or-replicate rows_length (row_length * head_row + j) 0 0 (omega arith)) in
      let number : get_or rows (row_length * number_row + j) 0 ≡ 0 =
      rw e (get_or-replicate rows_length (row_length * number_row + j) 0 0 (omega arith)) in
      let row : take row_length (drop (row_length * (entry_row + j)) rows) ≡ replicate row_length 0 =
      rw (e, zeros-dropped (row_length * (entry_row + j)) rows_length)
      (zeros-taken row_length (rows_length - row_length * (entry_row + j)) (omega arith)) in
      rw (head, number, row) refl

  pub new-lists : lists_in rows ≡ new_lists
  unfolding entries
  new-lists = same_entries (entry_at rows) new_ref_p 0 42 new-entry

pub new-machine : (rows : List ℕ) → rows ≡ replicate rows_length 0 → machine_in (replicate slots 0) rows new_scalars ≡ new_machine
new-machine rows e = rw (new-lists rows e) refl

-- ---- on a whole state the test is passed

pub init-on-whole : (pm : EvcPm) (size refs : ℕ) → whole pm ≡ true → init pm size refs ≡ init_whole pm size refs
unfolding init
init-on-whole pm size refs w = rw w

pub get-on-whole : (pm : EvcPm) → whole pm ≡ true → get pm ≡ get_whole pm
unfolding get
get-on-whole pm w = rw w

pub out-on-whole : (pm : EvcPm) → whole pm ≡ true → out pm ≡ out_whole pm
unfolding out
out-on-whole pm w = rw w

pub put-on-whole : (pm : EvcPm) (refp : List EvcRefP) (c : PutCall) → whole pm ≡ true → put pm refp c ≡ put_whole pm refp c
put-on-whole pm refp c w = rw w refl

reply-call : (call : ℕ) (a : Result Answer Refusal) → (reply_of call a).call ≡ call
reply-call call (Ok Answer.Done) = refl
reply-call call (Ok (Answer.Picture buf poc)) = refl
reply-call call (Ok Answer.NotYet) = refl
reply-call call (Ok Answer.NoMore) = refl
reply-call call (Ok (Answer.Counts forward backward)) = refl
reply-call call (Err why) = refl

-- The scalars with another rest; the record stays.
abbrev pub with_rest : Scalars → Rest → Scalars
with_rest s rest = record { rest = rest; poc = s.poc }

module _ (keys rows : List ℕ) (s : Scalars) (call : ℕ) where
  abbrev m : Machine
  m = machine_in keys rows s

  rest_stays : (rest : Rest) → rest ≡ s.rest → with_rest s rest ≡ s
  rest_stays rest e = rw e refl

  -- A call on the state.
  pub state-makes : {reply : Reply} {answer : Result Answer Refusal} {rest : Rest} {keys' rows' : List ℕ} {x w : PmResult}
      → reply ≡ reply_of call answer → x ≡ w → Calls answer keys rows s.rest keys' rows' rest w
      → Makes reply (with_rest s rest) s keys rows keys' rows' (on_state call m x)
  state-makes {answer = answer} {rest} {keys'} {rows'} {x} e f calls =
      let c = calls.comes in
      let pm-is : stands keys' rows' rest ≡ x.pm = c.stands_for ∙ ap (λ (y : PmResult). y.pm) (sym f) in
      rw e (record {
        replies = ap (reply_of call) (c.answers ∙ ap (λ (y : PmResult). y.answer) (sym f));
        machine_is = rw (pm-is, c.lists_stay) refl;
        other_rows = λ b kept no. calls.other_rows b (λ n a. no (sym (ap (λ (y : Result Answer Refusal). (reply_of call y).buf) a)));
        still_sized = c.still_sized;
        refused_leaves = λ t. refused-answer call answer t (λ why a.
            let u = calls.untouched why a in
            record { same_keys = u.same_keys; same_rows = u.same_rows; same_scalars = rest_stays rest u.same_rest });
      })

  -- A call on state and lists.
  pub lists-makes : {reply : Reply} {r : Called} {rows' : List ℕ} {c : RefpCall} {x : RefpResult}
      → eqb call 5 ≡ true → reply ≡ reply_of call r.answer → x ≡ lists_whole (stands keys rows s.rest) (lists_in rows) c → ListsCame r keys rows rows' s.rest c
      → Makes reply (with_rest s r.rest) s keys rows keys rows' (on_lists call m x)
  lists-makes {r = r} {rows'} {x = x} five e f came =
      let c = came.comes in
      let pm-is : stands keys rows' r.rest ≡ x.pm = c.lists_stand_for ∙ ap (λ (y : RefpResult). y.pm) (sym f) in
      let refp-is : lists_in rows' ≡ x.refp = c.lists_are ∙ ap (λ (y : RefpResult). y.refp) (sym f) in
      rw e (record {
        replies = ap (reply_of call) (c.lists_answers ∙ ap (λ (y : RefpResult). y.answer) (sym f));
        machine_is = rw (pm-is, refp-is) refl;
        other_rows = λ b kept no.
            let of_lists : b < cond (eqb call 5) slots row_count = subst (λ (n : ℕ). b < rows_kept n) (reply-call call r.answer) kept in
            came.pictures_stay b (subst (λ (t : Bool). b < cond t slots row_count) five of_lists);
        still_sized = c.lists_sized;
        refused_leaves = λ t. refused-answer call r.answer t (λ why a.
            let u = came.refused_leaves why a in
            record { same_keys = refl; same_rows = u.0; same_scalars = rest_stays r.rest u.1 });
      })

-- A derivation.
pub record-makes : (keys rows : List ℕ) (s : Scalars) (L t : ℕ) → Sized keys rows
    → {reply : Reply} → reply ≡ derived_reply 6 (derive L t s.poc).answer → {after : Scalars} → after ≡ record { rest = s.rest; poc = (derive L t s.poc).poc }
    → Makes reply after s keys rows keys rows (on_record 6 (machine_in keys rows s) (derive L t s.poc))
record-makes keys rows s L t sized e f = rw (e, f) (record {
  replies = refl;
  machine_is = refl;
  other_rows = λ b kept no. refl;
  still_sized = sized;
  refused_leaves = λ d. refused-number (derive L t s.poc).answer d (λ why a.
      record { same_keys = refl; same_rows = refl; same_scalars = rw (derive-refused L t s.poc why a) refl });
})

-- A call on a machine that runs leaves one that runs.
pub runs_on : {keys rows keys' rows' : List ℕ} {after s : Scalars} {r : Reply} (l : Option Call) → Runs keys rows s
    → Makes r after s keys rows keys' rows' (step_line (machine_in keys rows s) l) → Runs keys' rows' after
runs_on {keys} {rows} {s = s} l runs c = record {
  sized = c.still_sized;
  whole_state = ap (λ (m : Machine). whole m.pm) c.machine_is ∙ (line-sound (machine_in keys rows s) l (sound-in runs)).whole_state;
}

-- ---- a call by what it is

pub room-runs : {keys rows : List ℕ} {s : Scalars} {call k : Call} → CallRoom keys rows s call → call ≡ k → reads_state k ≡ true → Runs keys rows s
room-runs room e r = record { sized = room.sized; whole_state = room.ready (ap reads_state e ∙ r) }

pub by_call : {r : Reply} {after s : Scalars} {keys rows keys' rows' : List ℕ} {call k : Call} → call ≡ k
    → Makes r after s keys rows keys' rows' (step (machine_in keys rows s) k) → Makes r after s keys rows keys' rows' (step (machine_in keys rows s) call)
by_call {r} {after} {s} {keys} {rows} {keys'} {rows'} e c = subst (λ (x : Call). Makes r after s keys rows keys' rows' (step (machine_in keys rows s) x)) (sym e) c

-- a call that is not ready is refused with 7, and one that is may be made
pub ready-room : {keys rows : List ℕ} {s : Scalars} (call : Call) → Sized keys rows → is_ready keys rows s call ≡ true → CallRoom keys rows s call
ready-room {keys} {rows} {s} call sized e = record { sized = sized; ready = λ r. rw r at e }

-- a state that is not whole turns every call that reads it down with 7
pub not-whole-step : (m : Machine) (call : Call) → reads_state call ≡ true → whole m.pm ≡ false
    → step m call ≡ stepped (reply_of (call_byte call) (Err StateNotWhole)) m
unfolding step init get out put_marked lists
not-whole-step m (Init size refs) r w = rw w
not-whole-step m GetEmptyPic r w = rw w
not-whole-step m (PutPic flags poc tid gap) r w = not-whole-put (put_call_of flags poc tid gap)
  where
    not-whole-put : (c : PutCall) → on_state 3 m (put m.pm m.refp c) ≡ stepped (reply_of 3 (Err StateNotWhole)) m
    not-whole-put c = rw w refl
not-whole-step m OutPic r w = rw w
not-whole-step m (RefpInit slice poc layer intra limit) r w = not-whole-lists (refp_call_of slice poc layer intra limit)
  where
    not-whole-lists : (c : RefpCall) → on_lists 5 m (lists m.pm m.refp c) ≡ stepped (reply_of 5 (Err StateNotWhole)) m
    not-whole-lists c = rw w
not-whole-step m (PocDerivation L t) r w = absurd (Bool.false≢true r)

module _ {keys rows : List ℕ} (s : Scalars) (sized : Sized keys rows) where
  pub refused-makes : (call : Call) → is_ready keys rows s call ≡ false → (reply : Reply) → reply ≡ reply_of (call_byte call) (Err StateNotWhole)
      → Makes reply s s keys rows keys rows (step (machine_in keys rows s) call)
  refused-makes call n reply e = both (reads_state call) refl (whole (stands keys rows s.rest)) refl n
    where
      both : (b : Bool) → reads_state call ≡ b → (w : Bool) → whole (stands keys rows s.rest) ≡ w → (not b || w) ≡ false
          → Makes reply s s keys rows keys rows (step (machine_in keys rows s) call)
      both false r w v x = absurd (Bool.true≢false x)
      both true r true v x = absurd (Bool.true≢false x)
      both true r false v x = rw (e, not-whole-step (machine_in keys rows s) call r v) (record {
        replies = refl;
        machine_is = refl;
        other_rows = λ b kept no. refl;
        still_sized = sized;
        refused_leaves = λ t. record { same_keys = refl; same_rows = refl; same_scalars = refl };
      })
