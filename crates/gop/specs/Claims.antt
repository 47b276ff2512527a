-- What is claimed of plans beyond the contract. Assumes nothing.
use Rattle.std.specs.Prelude.{ℕ, ◌-◌, ◌*◌, ◌^◌, ◌≤◌, ◌≡◌, Bool, true, [], ◌∷◌, map, Err}
use Rattle.def.specs.Binary.{floor_log2}
use Rattle.def.specs.Constants.{slice_type_of}
use Rattle.def.specs.declared.{EvcPoc.EvcPoc, Refusal.Refusal, SliceType.SliceType}
use Rattle.tbl.specs.DepthRows.{is_gop_size}
use Rattle.poc.specs.PictureNumber.{max_poc}
use Rattle.poc.specs.FullRun.{full_layers}
use Rattle.gop.specs.Plan.{is_inter, at_count, depth_of, plan}
use Rattle.gop.specs.Group.{Group, PlannedRun, first_of, later_of}

-- A plan that is turned down leaves the record as it was.
abbrev pub RefusedKeeps : Type 0
RefusedKeeps =
    (count length interval inter : ℕ) (hierarchy : Bool) (r : EvcPoc) (why : Refusal)
    → (plan count length interval inter hierarchy r).answer ≡ Err why → (plan count length interval inter hierarchy r).poc ≡ r

-- The derivation is only asked for layers that the group has, so 15 never comes.
abbrev pub NeverBadLayer : Type 0
NeverBadLayer =
    (count length interval inter : ℕ) (hierarchy : Bool) (r : EvcPoc)
    → (plan count length interval inter hierarchy r).answer ≡ Err Refusal.BadLayer → ⊥

-- A group planned in its order with the hierarchy on, from a multiple of the length up to the next one and without a key picture inside, is a full run
-- of the distance rule: for each of the four lengths, any interval, P and B, and whatever record stood there.
abbrev pub PlansAreFullRun : Type 0
PlansAreFullRun =
    (length interval inter p : ℕ) (r : EvcPoc) → is_inter (slice_type_of inter) ≡ true → Group length interval p
    → (2 ^ floor_log2 length ≡ length)
    × PlannedRun (floor_log2 length) p (slice_type_of inter) (first_of p length interval inter r) (later_of p length interval inter r)

-- Such groups there are: with no key interval each multiple of the length begins one, 0 and the last one too.
abbrev pub GroupsExist : Type 0
GroupsExist = (length k : ℕ) → is_gop_size length ≡ true → k * length ≤ max_poc → Group length 0 (k * length)

-- The places of a group of 8, in turn, have the layers of the full run: 1, then 2 twice, then 3 four times.
abbrev pub EightAsListed : Type 0
EightAsListed =
    (map (λ place. depth_of place - 1) (1 ∷ 2 ∷ 3 ∷ 4 ∷ 5 ∷ 6 ∷ 7 ∷ []) ≡ full_layers 3)
    × (full_layers 3 ≡ 1 ∷ 2 ∷ 2 ∷ 3 ∷ 3 ∷ 3 ∷ 3 ∷ [])

-- For example: count 8 with interval 8 is a key picture, I, before it is a multiple of the length.
abbrev pub KeyBeforeMultiple : Type 0
KeyBeforeMultiple = (r : EvcPoc) → plan 8 8 8 3 true r ≡ at_count SliceType.EVC_ST_I 0 8

-- For example: at a multiple of the length nothing of the record is read, so any record will do.
abbrev pub MultipleReadsNone : Type 0
MultipleReadsNone = (r : EvcPoc) → plan 8 8 0 2 true r ≡ at_count SliceType.EVC_ST_P 1 8
