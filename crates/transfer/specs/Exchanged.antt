-- A machine loaded from an image into three slices, and saved from them: what is given, and what is written.
-- Assumes nothing.
use Rattle.std.specs.Prelude.{ℕ, ◌≡◌, cond, ◌&&◌, List, eqb, length}
use Rattle.def.specs.Refusals.{NumberInUse}
use Rattle.whole.specs.Whole.{whole}
use Rattle.image.specs.Image.{image_length, is_image}
use Rattle.machine.specs.Lent.{slices, machine_at, sized}
use Rattle.exchange.specs.Lent.{bad_line, not_whole, Left, left, machine_of, machine_bytes, ImageHolds}

-- ---- load

-- 18 where a size is another or the bytes are no image, 7 where the image's state is not whole.
abbrev pub load_status : List ℕ → List ℕ → List ℕ → List ℕ → ℕ
load_status keys rows registers image = cond (sized (slices keys rows registers) && is_image image) (cond (whole (machine_of image).pm) 0 not_whole) bad_line

-- Nothing is written.
pub record Same (keys rows registers keys' rows' registers' : List ℕ) : Type 0 where
  pub same_keys : keys' ≡ keys
  pub same_rows : rows' ≡ rows
  pub same_registers : registers' ≡ registers

pub record Loads (r : ℕ) (keys rows registers image keys' rows' registers' : List ℕ) : Type 0 where
  pub given : r ≡ load_status keys rows registers image
  pub loaded : r ≡ 0 → machine_at (slices keys' rows' registers') ≡ machine_of image
  pub kept : NumberInUse r → Same keys rows registers keys' rows' registers'

-- ---- save

-- The image of the slices' machine, or a refusal as above and the bytes that stood there.
abbrev pub saved : List ℕ → List ℕ → List ℕ → List ℕ → Left
saved keys rows registers image =
    let m = machine_at (slices keys rows registers) in
    cond (sized (slices keys rows registers) && eqb (length image) image_length) (cond (whole m.pm) (left 0 (machine_bytes m)) (left not_whole image))
    (left bad_line image)

pub record Saves (r : ℕ) (keys rows registers image image' : List ℕ) : Type 0 where
  pub given : left r image' ≡ saved keys rows registers image
  pub holds : r ≡ 0 → ImageHolds image' (machine_at (slices keys rows registers))
  pub kept : NumberInUse r → image' ≡ image
