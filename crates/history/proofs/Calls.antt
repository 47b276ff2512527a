-- What each call does to slots and lease, gathered here for the proofs of this crate: they rest on these facts alone.
-- Slots are compared by how many pass a test; a test that does not read the marks sees nothing of marking.
-- Assumes nothing.
use Rattle.std.specs.Prelude.{Result, Ok, Err}
use Prim.Native.Nat.{ℕ, ◌+◌, ◌<◌}
use mathlib.Core.Path.{◌≡◌, refl, ap, ◌∙◌}
use mathlib.Core.Bool.{Bool, true, false}
use mathlib.Core.List.{List, Memᴰ}
use native.Mathlib.Omega.{arith}
use lib.Dec.{leb, eqb}
use lib.ListN.{length, get_or, set}
use mir.Val.{bool_byte}
use borrow.Author.Tests.{ne_eqb}
use Rattle.seq.specs.Lists.{count_if, lowest, remove_at}
use Rattle.seq.proofs.Tests.{and_left, count_set}
use Rattle.seq.proofs.Walks.{lowest-passes, any_found}
use Rattle.seq.proofs.Orders.{remove-reordered, count-last}
use Rattle.seq.proofs.Members.{mem-at}
use Rattle.def.specs.declared.{Slot.Slot, EvcPm.EvcPm, EvcRefP.EvcRefP, PutCall.PutCall, RefpCall.RefpCall, Answer.Answer, Refusal.Refusal}
use Rattle.def.specs.Results.{PmResult}
use Rattle.def.specs.Refusals.{refusal_number}
use Rattle.def.proofs.Refusals.{refusals-in-use}
use Rattle.def.specs.State.{slots, new_pic, empty_slot, no_slot, occupied_by, is_wanted, is_idle, unmarked, handed_over}
use Rattle.whole.specs.Whole.{held_buffers}
use Rattle.refp.specs.Lists.{lists}
use Rattle.refp.proofs.ListLaws.{only-counts}
use Rattle.picman.specs.Get.{get}
use Rattle.picman.proofs.GetLaws as get-laws
use Rattle.picman.proofs.GetKeeps.{fresh-not-held}
use Rattle.picman.specs.Put.{put, remarked, list_numbers, taken, place_for}
use Rattle.picman.proofs.PutLaws as put-laws
use Rattle.picman.proofs.Keeps.{remarks, remarked-whole, remarked-size, remarked-lease}
use Rattle.picman.proofs.Places.{place-empty}
use Rattle.picman.specs.Out.{out, is_due}
use Rattle.picman.proofs.OutCases.{due_slot, due_in}
use Rattle.picman.proofs.OutLaws as out-laws
use Rattle.picman.specs.Init.{init}
use Rattle.picman.proofs.InitLaws as init-laws
use Rattle.line.specs.Answers.{reply_of}
use Rattle.history.specs.Pictures.{Content, content_of, is_done}

-- ---- slots by counts

-- A test that does not read the mark.
abbrev pub Blind : (Slot → Bool) → Type 0
Blind p = (s : Slot) → p (unmarked s) ≡ p s

-- The slots ys are the slots xs, up to order and marks.
abbrev pub SameSlots : List Slot → List Slot → Type 0
SameSlots xs ys = (p : Slot → Bool) → Blind p → count_if p ys ≡ count_if p xs

-- The same, with one slot that became another.
abbrev pub Swapped : Slot → Slot → List Slot → List Slot → Type 0
Swapped old new xs ys = (p : Slot → Bool) → Blind p → count_if p ys + bool_byte (p old) ≡ count_if p xs + bool_byte (p new)

-- A refusal's status is not 0.
pub refused-status : (why : Refusal) → eqb (refusal_number why) 0 ≡ false
refused-status why = ne_eqb (refusal_number why) 0 (let h = (refusals-in-use why).0 in λ e. omega arith)

-- ---- get

pub data GetActs (pm : EvcPm) : Result Answer Refusal → EvcPm → Type 0 where
  turned_down : (why : Refusal) → GetActs pm (Err why) pm
  took-idle : {q : EvcPm} (s : Slot) → is_idle s ≡ true → Memᴰ s pm.pic → pm.pic_lease.present ≡ false → q.pic_lease ≡ s
      → Swapped s empty_slot pm.pic q.pic → GetActs pm (Ok (Answer.Picture s.buf s.pic.poc)) q
  made-new : {q : EvcPm} (b : ℕ) → (Memᴰ b (held_buffers pm) → ⊥) → pm.pic_lease.present ≡ false → q.pic_lease ≡ occupied_by new_pic b
      → q.pic ≡ pm.pic → GetActs pm (Ok (Answer.Picture b 0)) q

pub get-acts : (pm : EvcPm) → length pm.pic ≡ slots → GetActs pm (get pm).answer (get pm).pm
get-acts pm size = pick (get-laws.gets pm)
  where
    pick : {r : PmResult} → get-laws.Gets pm r → GetActs pm r.answer r.pm
    pick (get-laws.not_whole w) = turned_down _
    pick (get-laws.leased w l) = turned_down _
    pick (get-laws.idle w l h) =
        let i = lowest is_idle pm.pic in
        let found : i < length pm.pic = any_found is_idle pm.pic h in
        let taken = get_or pm.pic i no_slot in
        let left = remove_at empty_slot i pm.pic in
        let swapped : Swapped taken empty_slot pm.pic left =
        λ p blind. omega (arith, remove-reordered no_slot empty_slot i pm.pic found p, count-last p left taken, count-last p pm.pic empty_slot) in
        took-idle taken (lowest-passes no_slot is_idle pm.pic found) (mem-at pm.pic i no_slot found) l refl swapped
    pick (get-laws.full w l h f) = turned_down _
    pick (get-laws.made w l h f) = made-new _ (fresh-not-held pm w size l f) l refl refl

-- ---- put

-- the content that a put of the picture leased in x gives it
abbrev pub returns : List EvcRefP → PutCall → EvcPm → Content
returns refp c x =
    record { buf = x.pic_lease.buf; poc = c.poc; layer = c.temporal_id; numbers = list_numbers x.num_refp_0 refp x.pic_lease.pic }

pub data PutActs (pm : EvcPm) (refp : List EvcRefP) (c : PutCall) : Result Answer Refusal → EvcPm → Type 0 where
  turned_down : (why : Refusal) → PutActs pm refp c (Err why) pm
  marked-only : {q : EvcPm} → c.has_pic ≡ false → q.pic_lease ≡ pm.pic_lease → SameSlots pm.pic q.pic → PutActs pm refp c (Ok Answer.Done) q
  stored : {q : EvcPm} {b : ℕ} (old new : Slot) → c.has_pic ≡ true → pm.pic_lease.present ≡ true → q.pic_lease ≡ empty_slot → old.present ≡ false
      → new.present ≡ true
      → content_of new ≡ returns refp c pm
      → new.pic.need_for_out ≡ c.need_for_output
      → Swapped old new pm.pic q.pic → PutActs pm refp c (Ok (Answer.Picture b c.poc)) q

pub put-acts : (pm : EvcPm) (refp : List EvcRefP) (c : PutCall) → length pm.pic ≡ slots → PutActs pm refp c (put pm refp c).answer (put pm refp c).pm
put-acts pm refp c size = pick (put-laws.puts pm refp c)
  where
    pick : {r : PmResult} → put-laws.Puts pm (remarked c pm) refp c r → PutActs pm refp c r.answer r.pm
    pick (put-laws.not_whole w) = turned_down _
    pick (put-laws.no_picture w p) = marked-only p (remarked-lease c pm w size) (remarks c pm w size).kept.as_many
    pick (put-laws.too_high w p t) = turned_down _
    pick (put-laws.no-lease w p t l) = turned_down _
    pick (put-laws.slot-taken w p t l o) = turned_down _
    pick (put-laws.placed w p t l o) =
        let q = remarked c pm in
        let now = remarks c pm w size in
        let size-now = remarked-size c pm w size in
        let lease = remarked-lease c pm w size in
        let numbers = list_numbers q.num_refp_0 refp q.pic_lease.pic in
        let place = place-empty c numbers q (remarked-whole c pm w size) size-now (ap (λ (s : Slot). s.present) lease ∙ l) o in
        let in-store = place.0 in
        let old = get_or q.pic (place_for c q) no_slot in
        let new = occupied_by (taken c numbers) q.pic_lease.buf in
        let swapped : Swapped old new pm.pic (set q.pic (place_for c q) new) =
        λ r blind. omega (arith, count_set r no_slot q.pic (place_for c q) new (omega arith), now.kept.as_many r blind) in
        stored old new p l refl place.1 refl (ap (returns refp c) now.counted) refl swapped

-- ---- out

pub data OutActs (pm : EvcPm) : Result Answer Refusal → EvcPm → Type 0 where
  handed-none : {a : Result Answer Refusal} → is_done (reply_of 4 a) ≡ false → OutActs pm a pm
  handed : {q : EvcPm} (s : Slot) → is_wanted s ≡ true → q.pic_lease ≡ pm.pic_lease → Swapped s (handed_over s) pm.pic q.pic
      → OutActs pm (Ok (Answer.Picture s.buf s.pic.poc)) q

pub out-acts : (pm : EvcPm) → length pm.pic ≡ slots → OutActs pm (out pm).answer (out pm).pm
out-acts pm size = pick (out-laws.outs pm)
  where
    pick : {r : PmResult} → out-laws.Outs pm r → OutActs pm r.answer r.pm
    pick (out-laws.not_whole w) = handed-none refl
    pick (out-laws.due w h) =
        let s = get_or pm.pic (due_slot pm) no_slot in
        handed s
        (and_left (is_wanted s) (leb s.pic.poc pm.poc_next_output) (lowest-passes no_slot (is_due pm.poc_next_output) pm.pic (due_in pm h)))
        refl
        (λ p blind. count_set p no_slot pm.pic (due_slot pm) (handed_over s) (due_in pm h))
    pick (out-laws.not_yet w h a) = handed-none refl
    pick (out-laws.no_more w h a) = handed-none refl

-- ---- init

pub data InitActs (pm : EvcPm) : Result Answer Refusal → EvcPm → Type 0 where
  turned_down : (why : Refusal) → InitActs pm (Err why) pm
  dropped : {q : EvcPm} → q.pic_lease ≡ empty_slot → q.pic ≡ pm.pic → InitActs pm (Ok Answer.Done) q

pub init-acts : (pm : EvcPm) (size refs : ℕ) → InitActs pm (init pm size refs).answer (init pm size refs).pm
init-acts pm size refs = pick (init-laws.inits pm size refs)
  where
    pick : {r : PmResult} → init-laws.Inits pm size refs r → InitActs pm r.answer r.pm
    pick (init-laws.not_whole w) = turned_down _
    pick (init-laws.too-big w t) = turned_down _
    pick (init-laws.done w s r) = dropped refl refl

-- ---- lists

-- nothing but the two counts changes
pub record OnlyCounts (pm q : EvcPm) : Type 0 where
  pub slots-stay : q.pic ≡ pm.pic
  pub lease-stays : q.pic_lease ≡ pm.pic_lease

pub lists-acts : (pm : EvcPm) (refp : List EvcRefP) (c : RefpCall) → OnlyCounts pm (lists pm refp c).pm
lists-acts pm refp c =
    record { slots-stay = ap (λ (q : EvcPm). q.pic) (only-counts pm refp c); lease-stays = ap (λ (q : EvcPm). q.pic_lease) (only-counts pm refp c) }
