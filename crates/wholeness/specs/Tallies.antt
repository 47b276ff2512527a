-- What one pass over keys gathers, key by key: the steps of `is_whole`.
-- Assumes nothing.
use Rattle.std.specs.Prelude.{ℕ, ◌+◌, ◌/◌, ◌%◌, ◌^◌, ◌<◌, cond, List, [], ◌∷◌}
use Rattle.std.specs.Int.Bits.{bit_or}
use Rattle.keys.specs.Keys.{key_present, key_buffer}
use Rattle.wholeness.specs.declared.tally.Tally.{Tally}

abbrev pub no_tally : Tally
no_tally = record { stray = 0; high = 0; occupied = 0; marked = 0; set = 0; sum = 0 }

-- No key of 28 lets a count or a sum grow too large.
pub record Roomy (t : Tally) : Type 0 where
  pub few : t.occupied < 256
  pub few_marked : t.marked < 256
  pub low_sum : t.sum < 1099511627776

-- A key without a picture.
abbrev pub strayed : Tally → ℕ → Tally
strayed t k = record t { stray = bit_or t.stray k }

-- A key with a picture.
abbrev pub gathered : Tally → ℕ → Tally
gathered t k =
    record t {
      high = bit_or t.high k;
      occupied = t.occupied + 1;
      marked = t.marked + k / 2 % 2;
      set = bit_or t.set (2 ^ key_buffer k);
      sum = t.sum + 2 ^ key_buffer k;
    }

abbrev pub tallied : Tally → ℕ → Tally
tallied t k = cond (key_present k) (gathered t k) (strayed t k)

unfoldable pub tally_all : Tally → List ℕ → Tally
tally_all t [] = t
tally_all t (k ∷ ks) = tally_all (tallied t k) ks
