-- An image that is lent: the machine that it holds, and what a function gives and leaves in it once it returns.
-- Assumes nothing.
use Rattle.std.specs.Prelude.{ℕ, ◌≡◌, true, List}
use Rattle.def.specs.Refusals.{refusal_number}
use Rattle.def.specs.declared.Refusal.{Refusal}
use Rattle.image.specs.Image.{image_bytes, pm_of, refp_of, poc_of, is_image}
use Rattle.machine.specs.declared.Machine.{Machine}

-- The number that is given where a size or a flag byte does not fit, and for a bad call: that of a bad line.
abbrev pub bad_line : ℕ
bad_line = refusal_number Refusal.BadLine

-- The number that is given where a state is not whole.
abbrev pub not_whole : ℕ
not_whole = refusal_number Refusal.StateNotWhole

pub record Left : Type 0 where
  pub given : ℕ
  pub image : List ℕ

abbrev pub left : ℕ → List ℕ → Left
left n image = record { given = n; image = image }

-- The machine that an image holds, and the image of a machine.
abbrev pub machine_of : List ℕ → Machine
machine_of bs = record { pm = pm_of bs; refp = refp_of bs; poc = poc_of bs }

abbrev pub machine_bytes : Machine → List ℕ
machine_bytes m = image_bytes m.pm m.refp m.poc

-- The bytes are an image, and the next call reads this machine from them.
pub record ImageHolds (bs : List ℕ) (m : Machine) : Type 0 where
  pub image : is_image bs ≡ true
  pub machine : machine_of bs ≡ m
