-- The image that the library lends to C: state, lists and record as 6,407 bytes, big-endian.
-- Here: the bytes of each part, what bytes at a place stand for, and when bytes are an image.
-- Assumes nothing.
use Rattle.std.specs.Prelude.{ℕ, ◌+◌, ◌*◌, ◌<◌, Bool, ◌&&◌, leb, eqb, length}
use mathlib.Core.List.{List, [], ◌∷◌, ◌++◌, flat_map}
use Rattle.seq.specs.Lists.{all_of, entries}
use Rattle.def.specs.State.{slots, list_places}
use Rattle.def.specs.Word.{word_bytes}
use Rattle.def.specs.declared.Slot.{Slot}
use Rattle.def.specs.declared.EvcPm.{EvcPm}
use Rattle.def.specs.declared.EvcRefP.{EvcRefP}
use Rattle.def.specs.declared.EvcPoc.{EvcPoc}
pub use Rattle.words.specs.Words.{word_width, flag_byte, byte_at, flag_at}
unfoldable pub use Rattle.words.specs.Words.{poc_bytes, word_at, poc_at}

-- Widths in bytes, and the places at which the parts begin: a slot has its flag, buffer number, two flags and layer, its number and its list
-- numbers, an entry its flag, buffer number, number and list numbers; the state's numbers take 11 bytes and the record 12.
abbrev pub slot_width : ℕ
slot_width = 5 + word_width * (1 + list_places)

abbrev pub refp_width : ℕ
refp_width = 2 + word_width * (1 + list_places)

abbrev pub lease_place : ℕ
lease_place = slot_width * slots

abbrev pub scalars_place : ℕ
scalars_place = lease_place + slot_width

abbrev pub refp_place : ℕ
refp_place = scalars_place + 11

abbrev pub poc_place : ℕ
poc_place = refp_place + refp_width * (2 * list_places)

abbrev pub image_length : ℕ
image_length = poc_place + 12

-- ---- the bytes of each part

unfoldable pub list_bytes : List ℕ → List ℕ
unfolding flat_map
list_bytes ns = flat_map word_bytes ns

unfoldable pub slot_bytes : Slot → List ℕ
unfolding list_bytes
slot_bytes s =
    flag_byte s.present
    ∷ s.buf
    ∷ flag_byte s.pic.is_ref
    ∷ flag_byte s.pic.need_for_out
    ∷ s.pic.temporal_id
    ∷ (word_bytes s.pic.poc ++ list_bytes s.pic.list_poc)

unfoldable pub scalar_bytes : EvcPm → List ℕ
scalar_bytes pm =
    pm.max_pb_size
    ∷ pm.max_num_ref_pics
    ∷ pm.cur_pb_size
    ∷ pm.cur_num_ref_pics
    ∷ pm.num_refp_0
    ∷ pm.num_refp_1
    ∷ (word_bytes pm.poc_next_output ++ (pm.poc_increase ∷ []))

unfoldable pub pm_bytes : EvcPm → List ℕ
unfolding flat_map slot_bytes scalar_bytes
pm_bytes pm = flat_map slot_bytes pm.pic ++ (slot_bytes pm.pic_lease ++ scalar_bytes pm)

unfoldable pub refp_bytes : EvcRefP → List ℕ
unfolding list_bytes
refp_bytes e = flag_byte e.present ∷ e.buf ∷ (word_bytes e.poc ++ list_bytes e.list_poc)

unfoldable pub image_bytes : EvcPm → List EvcRefP → EvcPoc → List ℕ
unfolding flat_map pm_bytes refp_bytes poc_bytes
image_bytes pm refp poc = pm_bytes pm ++ (flat_map refp_bytes refp ++ poc_bytes poc)

-- ---- what the bytes at a place stand for

pub record Bytes (bs : List ℕ) : Type 0 where
  pub each : (i : ℕ) → byte_at bs i < 256

-- A row of n parts, each of one width, the first at place i.
abbrev pub row_at : {A : Type 0} → (ℕ → A) → ℕ → ℕ → ℕ → List A
row_at part width i n = entries (λ k. part (i + width * k)) n

unfoldable pub list_at : List ℕ → ℕ → List ℕ
unfolding entries word_at
list_at bs i = row_at (word_at bs) word_width i list_places

unfoldable pub slot_at : List ℕ → ℕ → Slot
unfolding word_at list_at
slot_at bs i = record {
  present = flag_at bs i;
  buf = byte_at bs (i + 1);
  pic = record {
    poc = word_at bs (i + 5);
    is_ref = flag_at bs (i + 2);
    need_for_out = flag_at bs (i + 3);
    temporal_id = byte_at bs (i + 4);
    list_poc = list_at bs (i + 9);
  };
}

unfoldable pub pm_of : List ℕ → EvcPm
unfolding entries word_at slot_at
pm_of bs = record {
  pic = row_at (slot_at bs) slot_width 0 slots;
  pic_lease = slot_at bs lease_place;
  max_pb_size = byte_at bs scalars_place;
  max_num_ref_pics = byte_at bs (scalars_place + 1);
  cur_pb_size = byte_at bs (scalars_place + 2);
  cur_num_ref_pics = byte_at bs (scalars_place + 3);
  num_refp_0 = byte_at bs (scalars_place + 4);
  num_refp_1 = byte_at bs (scalars_place + 5);
  poc_next_output = word_at bs (scalars_place + 6);
  poc_increase = byte_at bs (scalars_place + 10);
}

unfoldable pub refp_at : List ℕ → ℕ → EvcRefP
unfolding word_at list_at
refp_at bs i = record { present = flag_at bs i; buf = byte_at bs (i + 1); poc = word_at bs (i + 2); list_poc = list_at bs (i + 6) }

unfoldable pub refp_of : List ℕ → List EvcRefP
unfolding entries refp_at
refp_of bs = row_at (refp_at bs) refp_width refp_place (2 * list_places)

unfoldable pub poc_of : List ℕ → EvcPoc
unfolding poc_at
poc_of bs = poc_at bs poc_place

-- ---- which bytes are an image

abbrev pub is_flag : List ℕ → ℕ → Bool
is_flag bs i = leb (byte_at bs i) 1

abbrev pub slot_flags : List ℕ → ℕ → Bool
slot_flags bs i = is_flag bs i && (is_flag bs (i + 2) && is_flag bs (i + 3))

-- The length is right and each flag byte is 0 or 1: three in each slot, the lease too, and one in each entry.
unfoldable pub is_image : List ℕ → Bool
unfolding all_of entries
is_image bs =
    eqb (length bs) image_length
    && (all_of (slot_flags bs) (row_at (λ i. i) slot_width 0 (slots + 1))
    && all_of (is_flag bs) (row_at (λ i. i) refp_width refp_place (2 * list_places)))
