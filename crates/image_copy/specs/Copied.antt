-- `copy_image`: what it gives, and the image as it leaves it.
-- Assumes nothing.
use Rattle.std.specs.Prelude.{ℕ, ◌≡◌, Bool, true, cond, ◌&&◌, List, eqb, length, Result}
use Rattle.def.specs.Refusals.{NumberInUse}
use Rattle.def.specs.declared.{Answer.Answer, Refusal.Refusal}
use Rattle.def.specs.declared.EvcRefP.{EvcRefP}
use Rattle.def.specs.Results.{CopyResult}
use Rattle.line.specs.Answers.{reply_of}
use Rattle.image.specs.Image.{refp_width, image_bytes, pm_of, refp_at, refp_of, poc_of, is_flag, is_image}
use Rattle.refp.specs.Copy.{copy}
use Rattle.machine.specs.declared.Machine.{Machine}
use Rattle.exchange.specs.Lent.{bad_line, Left, left, machine_of, machine_bytes, ImageHolds}

-- A list entry as bytes: 90 of them, the first a flag.
abbrev pub is_entry : List ℕ → Bool
is_entry bs = eqb (length bs) refp_width && is_flag bs 0

-- The copy of an entry's bytes into the lists of an image.
abbrev pub copy_into : List ℕ → ℕ → ℕ → List ℕ → CopyResult
copy_into image cnt lidx entry = copy (refp_of image) cnt lidx (refp_at entry 0)

-- An answer's status, as an answer line would show it: 0, or the refusal's number.
abbrev pub status_of : Result Answer Refusal → ℕ
status_of a = (reply_of 0 a).status

abbrev pub with_lists : Machine → List EvcRefP → Machine
with_lists m refp = record { pm = m.pm; refp = refp; poc = m.poc }

abbrev pub relisted : List ℕ → CopyResult → Left
relisted image r = left (status_of r.answer) (machine_bytes (with_lists (machine_of image) r.refp))

-- 18, and nothing is written, unless image and entry are what they must be.
unfoldable pub copied : List ℕ → ℕ → ℕ → List ℕ → Left
unfolding image_bytes pm_of refp_at refp_of poc_of is_image copy
copied image cnt lidx entry = cond (is_image image && is_entry entry) (relisted image (copy_into image cnt lidx entry)) (left bad_line image)

-- What holds of it, with the image that came and the one that is left.
pub record Copies (r : ℕ) (image : List ℕ) (cnt lidx : ℕ) (entry image' : List ℕ) : Type 0 where
  pub given : left r image' ≡ copied image cnt lidx entry
  pub holds : is_image image ≡ true → is_entry entry ≡ true → ImageHolds image' (with_lists (machine_of image) (copy_into image cnt lidx entry).refp)
  pub kept : NumberInUse r → image' ≡ image
