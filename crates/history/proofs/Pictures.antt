-- The claims on held pictures: call by call from what the calls do to slots and lease, each test of contents counted.
-- Assumes nothing.
use Rattle.std.specs.Prelude.{Result}
use Prim.Native.Nat.{ℕ, ◌+◌}
use mathlib.Core.Path.{◌≡◌, refl, sym, ap, ◌∙◌}
use mathlib.Core.Bool.{Bool, false, ◌&&◌}
use native.Mathlib.Decide.{ℕ_discrete}
use mathlib.Core.List.Memᴰ
use mathlib.Core.List.{List, [], ◌∷◌, ◌++◌, List-discrete}
use native.Mathlib.Omega.{arith}
use mir.Val.{bool_byte}
use Rattle.seq.specs.Lists.{count_if, select}
use Rattle.seq.proofs.Tests.{and_left, count-append, mem-any, not-any, count-one}
use Rattle.seq.proofs.Orders.{count-last}
use Rattle.seq.proofs.Maps.{map-count}
use Rattle.seq.proofs.Members.{select-mem}
use Rattle.def.specs.declared.{Slot.Slot, EvcPm.EvcPm, Answer.Answer, Refusal.Refusal}
use Rattle.def.specs.State.{new_pic, occupied_by, is_present, buffer_of}
use Rattle.whole.specs.Whole.{leases, places, held_buffers}
use Rattle.line.specs.declared.{Call.Call}
use Rattle.line.specs.Answers.{reply_of}
use Rattle.machine.specs.declared.Machine.{Machine}
use Rattle.machine.specs.Step.{put_call_of, refp_call_of, step}
use Rattle.history.specs.Pictures.{Content, content_of, contents, held_contents, CallPictures, Stays, EachPicture}
use Rattle.history.specs.Pictures.{Exchange, nothing, drops_lease, makes, returned, returns, exchange, Exchanged}
use Rattle.history.proofs.Counting.{count-select, reordered-mem}
use Rattle.history.proofs.Calls as acts
use Rattle.history.proofs.Calls.{Blind, GetActs, PutActs, OutActs, InitActs, OnlyCounts}
use Rattle.history.proofs.Calls.{get-acts, put-acts, out-acts, init-acts, lists-acts, refused-status}

-- ---- one test of contents

module _ (p : Content → Bool) where
  -- a place that holds a picture whose content passes
  abbrev holding : Slot → Bool
  holding s = s.present && p (content_of s)

  passing : (xs : List Slot) → count_if p (contents xs) ≡ count_if holding xs
  passing xs = map-count content_of p (select is_present xs) ∙ count-select is_present (λ s. p (content_of s)) xs

  state-passing : (pm : EvcPm) → count_if p (held_contents pm) ≡ count_if holding pm.pic + bool_byte (holding pm.pic_lease)
  state-passing pm = passing (places pm) ∙ count-last holding pm.pic pm.pic_lease

  lease-passing : (pm : EvcPm) → count_if p (contents (leases pm)) ≡ bool_byte (holding pm.pic_lease)
  unfolding count_if
  lease-passing pm = let e = passing (leases pm) in let o = count-one holding pm.pic_lease [] in omega arith

  absent : (s : Slot) → s.present ≡ false → bool_byte (holding s) ≡ 0
  absent s e = rw e

  same-slot : {s t : Slot} → s ≡ t → bool_byte (holding s) ≡ bool_byte (holding t)
  same-slot e = rw e refl

  blind : Blind holding
  blind s = refl

  none : count_if p [] ≡ 0
  unfolding count_if
  none = refl

  one : (x : Content) → count_if p (x ∷ []) ≡ bool_byte (p x)
  unfolding count_if
  one x = let o = count-one p x [] in omega arith

  -- an exchange, part by part
  module _ (pm q : EvcPm) (e : Exchange) where
    balanced : count_if holding q.pic + bool_byte (holding q.pic_lease) + count_if p e.gone
        ≡ count_if holding pm.pic + bool_byte (holding pm.pic_lease) + count_if p e.come
        → count_if p (held_contents q ++ e.gone) ≡ count_if p (held_contents pm ++ e.come)
    balanced h = omega (arith, count-append p (held_contents q) e.gone, count-append p (held_contents pm) e.come, state-passing q, state-passing pm)

-- the same slots and lease hold the same
same_held : {pm q : EvcPm} → OnlyCounts pm q → Exchanged (held_contents pm) nothing (held_contents q)
same_held o p = rw (o.slots-stay, o.lease-stays)

-- ---- call by call

module _ (m : Machine) where
  abbrev before : List Content
  before = held_contents m.pm

  abbrev lease : Slot
  lease = m.pm.pic_lease

  init-pictures : (size refs : ℕ) {a : Result Answer Refusal} {q : EvcPm} → InitActs m.pm a q
      → Exchanged before (exchange m (Call.Init size refs) (reply_of 1 a)) (held_contents q)
  init-pictures size refs (acts.turned_down why) = rw (refused-status why) (λ p. refl)
  init-pictures size refs (acts.dropped {q = q} l s) = λ p.
      balanced p m.pm q (drops_lease m)
      (omega (arith, none p, lease-passing p m.pm, ap (count_if (holding p)) s, same-slot p l))

  get-pictures : {a : Result Answer Refusal} {q : EvcPm} → GetActs m.pm a q → Exchanged before (exchange m Call.GetEmptyPic (reply_of 2 a)) (held_contents q)
  get-pictures (acts.turned_down why) = rw (refused-status why) (λ p. refl)
  get-pictures (acts.took-idle {q = q} s idle mem free l swap) =
      let present = select-mem is_present (places m.pm) (Memᴰ.append_left (leases m.pm) mem) (and_left s.present _ idle) in
      rw (mem-any (held_buffers m.pm) (Memᴰ.map buffer_of present))
      (λ p. balanced p m.pm q nothing (omega (arith, none p, absent p lease free, same-slot p l, swap (holding p) (blind p))))
  get-pictures (acts.made-new {q = q} b new free l s) =
      rw (not-any b (held_buffers m.pm) new)
      (λ p. balanced p m.pm q (makes b)
      (omega (arith, none p, one p (content_of (occupied_by new_pic b)), absent p lease free, same-slot p l, ap (count_if (holding p)) s)))

  put-pictures : (flags poc tid gap : ℕ) {a : Result Answer Refusal} {q : EvcPm} → PutActs m.pm m.refp (put_call_of flags poc tid gap) a q
      → Exchanged before (exchange m (Call.PutPic flags poc tid gap) (reply_of 3 a)) (held_contents q)
  put-pictures flags poc tid gap (acts.turned_down why) = rw (refused-status why) (λ p. refl)
  put-pictures flags poc tid gap (acts.marked-only {q = q} bare l same) =
      rw bare (λ p. balanced p m.pm q nothing (omega (arith, same-slot p l, same (holding p) (blind p))))
  put-pictures flags poc tid gap (acts.stored {q = q} old new some leased l gone here is wanted swap) =
      rw some (λ p. balanced p m.pm q (returns m (put_call_of flags poc tid gap))
      (omega (
        arith,
        lease-passing p m.pm,
        one p (returned m (put_call_of flags poc tid gap) lease),
        absent p old gone,
        same-slot p l,
        there p,
        swap (holding p) (blind p),
      )))
    where
      there : (p : Content → Bool) → bool_byte (holding p new) ≡ bool_byte (p (returned m (put_call_of flags poc tid gap) lease))
      there p = rw here (ap (λ (x : Content). bool_byte (p x)) is)

  out-pictures : {a : Result Answer Refusal} {q : EvcPm} → OutActs m.pm a q → Exchanged before nothing (held_contents q)
  out-pictures (acts.handed-none t) = λ p. refl
  out-pictures (acts.handed {q = q} s wanted l swap) = λ p. balanced p m.pm q nothing (omega (arith, same-slot p l, swap (holding p) (blind p)))

pub call-pictures : CallPictures
unfolding step
call-pictures m (Call.Init size refs) n = init-pictures m size refs (init-acts m.pm size refs)
call-pictures m Call.GetEmptyPic n = get-pictures m (get-acts m.pm n)
call-pictures m (Call.PutPic flags poc tid gap) n = put-pictures m flags poc tid gap (put-acts m.pm m.refp (put_call_of flags poc tid gap) n)
call-pictures m Call.OutPic n = out-pictures m (out-acts m.pm n)
call-pictures m (Call.RefpInit slice poc layer intra limit) n = same_held (lists-acts m.pm m.refp (refp_call_of slice poc layer intra limit))
call-pictures m (Call.PocDerivation L t) n = λ p. refl

-- ---- picture by picture

content-discrete : Discrete Content
content-discrete x y =
    pick (ℕ_discrete x.buf y.buf) (ℕ_discrete x.poc y.poc) (ℕ_discrete x.layer y.layer) (List-discrete ℕ_discrete x.numbers y.numbers)
  where
    pick : Dec (x.buf ≡ y.buf) → Dec (x.poc ≡ y.poc) → Dec (x.layer ≡ y.layer) → Dec (x.numbers ≡ y.numbers) → Dec (x ≡ y)
    pick (yes a) (yes b) (yes c) (yes d) = yes (λ i. record { buf = a i; poc = b i; layer = c i; numbers = d i })
    pick (no f) b c d = no (λ e. f (ap (λ (z : Content). z.buf) e))
    pick (yes a) (no f) c d = no (λ e. f (ap (λ (z : Content). z.poc) e))
    pick (yes a) (yes b) (no f) d = no (λ e. f (ap (λ (z : Content). z.layer) e))
    pick (yes a) (yes b) (yes c) (no f) = no (λ e. f (ap (λ (z : Content). z.numbers) e))

stays : (before after : List Content) (e : Exchange) → Exchanged before e after → Stays before e after
stays before after e r = record {
  is_held = λ x m. Memᴰ.append_cases after (reordered-mem content-discrete (before ++ e.come) (after ++ e.gone) r (Memᴰ.append_left e.come m));
  was_held = λ x m. Memᴰ.append_cases before
      (reordered-mem content-discrete (after ++ e.gone) (before ++ e.come) (λ p. sym (r p)) (Memᴰ.append_left e.gone m));
}

pub each-picture : EachPicture
each-picture m c n =
    stays (held_contents m.pm) (held_contents (step m c).machine.pm) (exchange m c (step m c).reply) (call-pictures m c n)
