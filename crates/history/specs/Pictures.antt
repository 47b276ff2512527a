-- Pictures don't vanish: what every call does to the pictures that slots and lease hold, on their contents and not on buffer numbers alone.
-- Assumes nothing.
use Rattle.std.specs.Prelude.{ℕ, ◌≡◌, Bool, cond, not, ◌&&◌, ◌⊎◌, eqb, length}
use mathlib.Core.List.{List, [], ◌∷◌, ◌++◌, map, Memᴰ}
use Rattle.seq.specs.Lists.{any_of, select, Reordered}
use Rattle.def.specs.declared.{Slot.Slot, EvcPm.EvcPm, PutCall.PutCall}
use Rattle.def.specs.State.{slots, new_pic, occupied_by}
use Rattle.whole.specs.Whole.{is_present, leases, places, held_buffers}
use Rattle.picman.specs.Put.{list_numbers}
use Rattle.line.specs.declared.{Call.Call, Reply.Reply}
use Rattle.machine.specs.declared.Machine.{Machine}
use Rattle.machine.specs.Step.{put_call_of, step}

-- A held picture is known by its buffer number, its number, its layer and its list numbers. Marks and the wanted flag may change.
pub record Content : Type 0 where
  pub buf : ℕ
  pub poc : ℕ
  pub layer : ℕ
  pub numbers : List ℕ

abbrev pub content_of : Slot → Content
content_of s = record { buf = s.buf; poc = s.pic.poc; layer = s.pic.temporal_id; numbers = s.pic.list_poc }

-- The pictures that places hold, and those of a state: the ones in its slots and the leased one.
abbrev pub contents : List Slot → List Content
contents xs = map content_of (select is_present xs)

abbrev pub held_contents : EvcPm → List Content
held_contents pm = contents (places pm)

-- What a call changes: pictures that are no longer held as they were, and pictures that are held from now on.
pub record Exchange : Type 0 where
  pub gone : List Content
  pub come : List Content

abbrev pub nothing : Exchange
nothing = record { gone = []; come = [] }

-- Status 0: the call was done, and an out handed a picture over.
abbrev pub is_done : Reply → Bool
is_done r = eqb r.status 0

-- An init drops the lease.
abbrev pub drops_lease : Machine → Exchange
drops_lease m = record { gone = contents (leases m.pm); come = [] }

-- A get takes a held picture as it is, or makes one: all zero, under a buffer number that no slot and no lease holds.
abbrev pub makes : ℕ → Exchange
makes b = record { gone = []; come = content_of (occupied_by new_pic b) ∷ [] }

abbrev pub is_made : Machine → Reply → Bool
is_made m r = not (any_of (eqb r.buf) (held_buffers m.pm))

-- A put returns the leased picture under its buffer number. Its number and layer are the call's; its first list numbers are those of the
-- forward list, and the rest stay.
abbrev pub returned : Machine → PutCall → Slot → Content
returned m c s = record { buf = s.buf; poc = c.poc; layer = c.temporal_id; numbers = list_numbers m.pm.num_refp_0 m.refp s.pic }

abbrev pub returns : Machine → PutCall → Exchange
returns m c = record { gone = contents (leases m.pm); come = map (returned m c) (leases m.pm) }

-- What a call with this reply may change. A call turned down changes nothing, and neither does a put of no picture, which only marks.
abbrev pub exchange : Machine → Call → Reply → Exchange
exchange m (Call.Init size refs) r = cond (is_done r) (drops_lease m) nothing
exchange m Call.GetEmptyPic r = cond (is_done r && is_made m r) (makes r.buf) nothing
exchange m (Call.PutPic flags poc tid gap) r =
    cond (is_done r && (put_call_of flags poc tid gap).has_pic) (returns m (put_call_of flags poc tid gap)) nothing
exchange m Call.OutPic r = nothing
exchange m (Call.RefpInit slice poc layer intra limit) r = nothing
exchange m (Call.PocDerivation L t) r = nothing

-- The pictures held afterwards, with those that went, are the pictures held before, with those that came: each as often, in whatever order.
abbrev pub Exchanged : List Content → Exchange → List Content → Type 0
Exchanged before e after = Reordered (before ++ e.come) (after ++ e.gone)

-- Every call on every state of 27 slots, refusals among them, exchanges what is said above and leaves every other held picture as it was.
-- A state that is not whole turns every call on it down.
abbrev pub CallPictures : Type 0
CallPictures =
    (m : Machine) (c : Call) → length m.pm.pic ≡ slots
    → Exchanged (held_contents m.pm) (exchange m c (step m c).reply) (held_contents (step m c).machine.pm)

-- The same picture by picture: one that was held is held after the call or is among those that went; one that is held was held or came.
pub record Stays (before : List Content) (e : Exchange) (after : List Content) : Type 0 where
  pub is_held : (x : Content) → Memᴰ x before → Memᴰ x after ⊎ Memᴰ x e.gone
  pub was_held : (x : Content) → Memᴰ x after → Memᴰ x before ⊎ Memᴰ x e.come

abbrev pub EachPicture : Type 0
EachPicture =
    (m : Machine) (c : Call) → length m.pm.pic ≡ slots
    → Stays (held_contents m.pm) (exchange m c (step m c).reply) (held_contents (step m c).machine.pm)
