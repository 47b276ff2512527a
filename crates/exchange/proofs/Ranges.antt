-- What the type of a value tells of it: each number fits its width and each array has its length. So a machine that a function has
-- fits an image, and its image holds it.
-- Assumes nothing.
use Prim.Native.Nat.{ℕ}
use mathlib.Core.List.Memᴰ
use mathlib.Core.List.{List, [], ◌∷◌, Memᴰ}
use native.Mathlib.Omega.{arith}
use mir.Val.{Val}
use denote.Shadow.{shadow}
use denote.Array.{Array, each}
use denote.Laws.{Is}
use denote.RattleType.{RattleType}
use denote.Struct.Field.{u32-field}
use denote.Struct.Declared.{row}
use Rattle.seq.proofs.Members.{holds-cons}
use Rattle.def.specs.contracts.Slot as slot
use Rattle.def.specs.contracts.EvcPm as pm
use Rattle.def.specs.contracts.EvcRefP as refp
use Rattle.def.specs.contracts.EvcPoc as poc
use Rattle.machine.specs.contracts.Machine as machine
use Rattle.def.specs.declared.Slot.{Slot}
use Rattle.def.specs.declared.EvcPm.{EvcPm}
use Rattle.def.specs.declared.EvcRefP.{EvcRefP}
use Rattle.def.specs.declared.EvcPoc.{EvcPoc}
use Rattle.image.specs.Fits.{FitsWord, ListFits, SlotFits, PmFits, RefPFits, PocFits, ContentsFit}
use Rattle.image.proofs.ContentsKept.{contents-kept}
use Rattle.image.proofs.ContentsImage.{contents-image}
use Rattle.machine.specs.declared.Machine.{Machine}
use Rattle.exchange.specs.Lent.{machine_bytes, ImageHolds}

-- an array: its length, and what holds of each element
module _ (R : RattleType) (P : R.Denot → Type 0) (tells : (x : R.Denot) (vs : List Val) → Is R x vs → P x) where
  elements : (xs : List R.Denot) (us : List Val) → shadow (each R.Denot R.own_val xs us) → (x : R.Denot) → Memᴰ x xs → P x
  elements [] us g x m = absurd (Memᴰ.not-nil m)
  elements (y ∷ xs) [] g x m = absurd g
  elements (y ∷ xs) (u ∷ us) g x m = holds-cons P (tells y (u ∷ []) g.0) (elements xs us g.1) x m

  array-each : (n : ℕ) (xs : List R.Denot) (vs : List Val) → Is (Array R n) xs vs → (x : R.Denot) → Memᴰ x xs → P x
  array-each n xs vs g = elements xs g.0 g.1.1

word_fits : (n : ℕ) (vs : List Val) → Is u32-field.row n vs → FitsWord n
word_fits n vs g = omega (arith, g.1)

list-fits : (ns : List ℕ) (vs : List Val) → Is (Array u32-field.row 21) ns vs → ListFits ns
list-fits ns vs g = record { size = g.1.0.1; words = array-each u32-field.row FitsWord word_fits 21 ns vs g }

slot-fits : (s : Slot) (vs : List Val) → Is (row slot.the_type) s vs → SlotFits s
slot-fits s vs g =
    let rest = g.1.1.1 in
    let pic = rest.1.0.1.1 in
    record {
      buffer = omega (arith, rest.0.1);
      layer = omega (arith, pic.1.1.1.0.1);
      number = omega (arith, pic.0.1);
      lists = list-fits s.pic.list_poc _ pic.1.1.1.1.0;
    }

refp-fits : (e : EvcRefP) (vs : List Val) → Is (row refp.the_type) e vs → RefPFits e
refp-fits e vs g =
    let rest = g.1.1.1 in
    record { buffer = omega (arith, rest.0.1); number = omega (arith, rest.1.0.1); lists = list-fits e.list_poc _ rest.1.1.0 }

pm-fits : (q : EvcPm) (vs : List Val) → Is (row pm.the_type) q vs → PmFits q
pm-fits q vs g =
    let all = g.1.1 in
    let scalars = all.1.1 in
    record {
      size = all.0.1.0.1;
      each = array-each (row slot.the_type) SlotFits slot-fits 27 q.pic _ all.0;
      lease = slot-fits q.pic_lease _ all.1.0;
      store_limit = omega (arith, scalars.0.1);
      reference_limit = omega (arith, scalars.1.0.1);
      store_size = omega (arith, scalars.1.1.0.1);
      references = omega (arith, scalars.1.1.1.0.1);
      forward = omega (arith, scalars.1.1.1.1.0.1);
      backward = omega (arith, scalars.1.1.1.1.1.0.1);
      next_output = omega (arith, scalars.1.1.1.1.1.1.0.1);
      increase = omega (arith, scalars.1.1.1.1.1.1.1.0.1);
    }

poc-fits : (r : EvcPoc) (vs : List Val) → Is (row poc.the_type) r vs → PocFits r
poc-fits r vs g =
    let all = g.1.1 in
    record { number = all.0.1.1.0.1; previous = omega (arith, all.1.0.1); offset = all.1.1.0.1.1.0.1 }

machine-fits : (m : Machine) (vs : List Val) → Is (row machine.the_type) m vs → ContentsFit m.pm m.refp m.poc
machine-fits m vs g =
    let all = g.1.1 in
    record {
      state = pm-fits m.pm _ all.0;
      places = all.1.0.1.0.1;
      entry = array-each (row refp.the_type) RefPFits refp-fits 42 m.refp _ all.1.0;
      kept = poc-fits m.poc _ all.1.1.0;
    }

pub holds : (m : Machine) (vs : List Val) → Is (row machine.the_type) m vs → ImageHolds (machine_bytes m) m
holds m vs g =
    let fits = machine-fits m vs g in
    let kept = contents-kept m.pm m.refp m.poc fits in
    record { image = contents-image m.pm m.refp m.poc fits; machine = rw (kept.0, kept.1, kept.2) }
