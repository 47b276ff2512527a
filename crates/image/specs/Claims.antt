-- What is claimed of images and of what they stand for: an image and fitting contents are two forms of one thing.
-- Proofs: proofs/BytesKept.antt, proofs/BytesFit.antt, proofs/ContentsKept.antt, proofs/ContentsImage.antt.
-- Assumes nothing.
use Rattle.std.specs.Prelude.{◌≡◌, true, List, ℕ}
use Rattle.def.specs.declared.EvcPm.{EvcPm}
use Rattle.def.specs.declared.EvcRefP.{EvcRefP}
use Rattle.def.specs.declared.EvcPoc.{EvcPoc}
use Rattle.image.specs.Image.{image_bytes, is_image, pm_of, refp_of, poc_of, Bytes}
use Rattle.image.specs.Fits.{ContentsFit}

-- From bytes to contents and back: the bytes of what an image stands for are the image.
abbrev pub BytesKept : Type 0
BytesKept = (bs : List ℕ) → Bytes bs → is_image bs ≡ true → image_bytes (pm_of bs) (refp_of bs) (poc_of bs) ≡ bs

-- What bytes stand for fits.
abbrev pub BytesFit : Type 0
BytesFit = (bs : List ℕ) → Bytes bs → ContentsFit (pm_of bs) (refp_of bs) (poc_of bs)

-- From contents to bytes and back: what the bytes of fitting contents stand for are the contents.
abbrev pub ContentsKept : Type 0
ContentsKept =
    (pm : EvcPm) (refp : List EvcRefP) (poc : EvcPoc) → ContentsFit pm refp poc
    → (pm_of (image_bytes pm refp poc) ≡ pm) × (refp_of (image_bytes pm refp poc) ≡ refp) × (poc_of (image_bytes pm refp poc) ≡ poc)

-- The bytes of fitting contents are bytes, and an image.
abbrev pub ContentsBytes : Type 0
ContentsBytes = (pm : EvcPm) (refp : List EvcRefP) (poc : EvcPoc) → ContentsFit pm refp poc → Bytes (image_bytes pm refp poc)

abbrev pub ContentsImage : Type 0
ContentsImage = (pm : EvcPm) (refp : List EvcRefP) (poc : EvcPoc) → ContentsFit pm refp poc → is_image (image_bytes pm refp poc) ≡ true
