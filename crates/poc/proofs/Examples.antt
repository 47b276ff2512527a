-- A derivation computed: what one must not do is move previous on where the search wraps.
-- Assumes nothing.
use mathlib.Core.Path.{◌≡◌, refl}
use lib.IntN.{pos}
use lib.Ieee.{size, span, climb}
use Rattle.def.specs.Binary.{floor_log2}
use Rattle.poc.specs.PictureNumber.{derive, record_of, offset_from, seek, in_layer}
use Rattle.poc.proofs.Answers.{derived}

-- L 3, previous 8, offset 5, layer 1: from 6 the search meets 7, 0 and 1. The number is 4, and previous stays 8.
pub search-wraps : derive 3 1 (record_of (pos 0) 8 5) ≡ derived (pos 4) 8 1
unfolding derive offset_from seek in_layer floor_log2 size span climb
search-wraps = refl
