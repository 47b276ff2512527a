-- Contents that an image can hold: each number fits its width, and each array has its length.
-- Assumes nothing.
use Rattle.std.specs.Prelude.{◌≡◌, ℕ, ◌*◌, ◌^◌, ◌<◌, length}
use mathlib.Core.List.{List, Memᴰ}
use Rattle.std.specs.Int.Signed.{mag}
use Rattle.def.specs.State.{slots, list_places}
use Rattle.def.specs.declared.Slot.{Slot}
use Rattle.def.specs.declared.EvcPm.{EvcPm}
use Rattle.def.specs.declared.EvcRefP.{EvcRefP}
use Rattle.def.specs.declared.EvcPoc.{EvcPoc}

abbrev pub FitsByte : ℕ → Type 0
FitsByte n = n < 256

abbrev pub FitsWord : ℕ → Type 0
FitsWord n = n < 2 ^ 32

pub record ListFits (ns : List ℕ) : Type 0 where
  pub size : length ns ≡ list_places
  pub words : (n : ℕ) → Memᴰ n ns → FitsWord n

pub record SlotFits (s : Slot) : Type 0 where
  pub buffer : FitsByte s.buf
  pub layer : FitsByte s.pic.temporal_id
  pub number : FitsWord s.pic.poc
  pub lists : ListFits s.pic.list_poc

pub record PmFits (pm : EvcPm) : Type 0 where
  pub size : length pm.pic ≡ slots
  pub each : (s : Slot) → Memᴰ s pm.pic → SlotFits s
  pub lease : SlotFits pm.pic_lease
  pub store_limit : FitsByte pm.max_pb_size
  pub reference_limit : FitsByte pm.max_num_ref_pics
  pub store_size : FitsByte pm.cur_pb_size
  pub references : FitsByte pm.cur_num_ref_pics
  pub forward : FitsByte pm.num_refp_0
  pub backward : FitsByte pm.num_refp_1
  pub next_output : FitsWord pm.poc_next_output
  pub increase : FitsByte pm.poc_increase

pub record RefPFits (e : EvcRefP) : Type 0 where
  pub buffer : FitsByte e.buf
  pub number : FitsWord e.poc
  pub lists : ListFits e.list_poc

-- `mag` is n both of n and of -(n + 1).
pub record PocFits (r : EvcPoc) : Type 0 where
  pub number : mag r.poc_val.0 < 2 ^ 31
  pub previous : FitsWord r.prev_poc_val
  pub offset : mag r.prev_doc_offset.0 < 2 ^ 31

pub record ContentsFit (pm : EvcPm) (refp : List EvcRefP) (poc : EvcPoc) : Type 0 where
  pub state : PmFits pm
  pub places : length refp ≡ 2 * list_places
  pub entry : (e : EvcRefP) → Memᴰ e refp → RefPFits e
  pub kept : PocFits poc
