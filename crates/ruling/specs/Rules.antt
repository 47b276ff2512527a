-- What a slice asks of the ordered pictures, by its type, its layer and the last intra picture.
-- Assumes nothing.
use Rattle.std.specs.Prelude.{ℕ, Bool, true, false, cond, ◌&&◌, leb, ltb, eqb, ℤ, pos, negsuc}
use Rattle.def.specs.declared.{RefpCall.RefpCall, SliceType.SliceType}
use Rattle.ordering.specs.Order.{Key}
use Rattle.passes.specs.Passes.{below, Ask}

-- What a slice takes at a layer: the bound on a picture's layer at the start of a pass, the bound once a picture of some layer has been taken,
-- and whether the age test applies. A layer is a byte, so 255 bounds nothing.
pub record Rule : Type 0 where
  pub start : ℕ
  pub after : ℕ → ℕ
  pub aged : Bool

abbrev pub no_bound : ℕ
no_bound = 255

-- P. At layer 0 no layer is too high, and old pictures are left out. Above it age does not count: layer 1 refers to layers 0 and 1, a higher one to
-- whatever comes first and from then on to layers 0 and 1.
abbrev pub rule_p : ℕ → Rule
rule_p layer =
    cond (eqb layer 0) (record { start = no_bound; after = λ _. no_bound; aged = true })
    (record { start = cond (eqb layer 1) 1 no_bound; after = λ _. 1; aged = false })

-- B and unknown: the bound is one below the layer, but not below 0; a picture that is taken sets it so by its own layer.
abbrev pub rule_b : ℕ → Rule
rule_b layer = record { start = below layer; after = below; aged = true }

-- P has a rule of its own; B and unknown share theirs. Slice I asks for no list.
abbrev pub rule_of : SliceType → ℕ → Rule
rule_of SliceType.EVC_ST_UNKNOWN layer = rule_b layer
rule_of SliceType.EVC_ST_I layer = rule_b layer
rule_of SliceType.EVC_ST_P layer = rule_p layer
rule_of SliceType.EVC_ST_B layer = rule_b layer

-- Whether a picture is old: it lies before the last intra picture, and the current one does not. A negative last intra makes none old.
abbrev pub is_old : ℤ → ℕ → Key → Bool
is_old (pos intra) poc k = leb intra poc && ltb k.poc intra
is_old (negsuc n) poc k = false

abbrev pub ask_for : RefpCall → Rule → Ask
ask_for c rule = record {
  limit = c.max_num_ref_pics;
  poc = c.poc;
  old = λ k. rule.aged && is_old c.last_intra c.poc k;
  start = rule.start;
  after = rule.after;
}

abbrev pub ask_of : RefpCall → Ask
ask_of c = ask_for c (rule_of c.slice_type c.layer_id)
