-- The group planner: from the running count, the group's length, the key interval, the inter slice type, the hierarchy and the
-- picture number record, a picture's slice type, depth, number and reference flag, with the record after. Section 6 of the
-- specification, and the Rust's `decide_normal_gop`. Assumes nothing.
use Rattle.std.specs.Prelude.{ℕ, ◌-◌, ◌%◌, Bool, true, false, cond, ◌&&◌, ◌||◌, not, ltb, eqb, ℤ, pos, Result, Ok, Err}
use Rattle.def.specs.Binary.{floor_log2}
use Rattle.def.specs.Constants.{slice_type_of}
use Rattle.def.specs.declared.{EvcPoc.EvcPoc, PocVal.PocVal, Refusal.Refusal, SliceType.SliceType}
use Rattle.tbl.specs.DepthRows.{is_gop_size, depth_rule}
use Rattle.gop.specs.declared.PicturePlan.{PicturePlan}
use Rattle.poc.specs.PictureNumber.{max_poc, offset_from, record_of, derive}

-- ---- what is asked

-- A key picture: its count is a multiple of the interval; with interval 0, for none, only count 0.
abbrev pub is_key : ℕ → ℕ → Bool
is_key count interval = cond (eqb interval 0) (eqb count 0) (eqb (count % interval) 0)

-- The inter slice type is P or B.
abbrev pub is_inter : SliceType → Bool
is_inter SliceType.EVC_ST_UNKNOWN = false
is_inter SliceType.EVC_ST_I = false
is_inter SliceType.EVC_ST_P = true
is_inter SliceType.EVC_ST_B = true

-- Where the Rust's subtraction falls below zero: no hierarchy, less than a length from the start, and neither 0 nor a key picture.
abbrev pub below_zero : ℕ → ℕ → Bool → Bool → Bool
below_zero count length key hierarchy = not hierarchy && not key && not (eqb (count % length) 0) && ltb count length

-- Refusal 19: an inter type other than P and B, whether it is needed or not; a count above the highest picture number; and that subtraction.
abbrev pub bad_plan : ℕ → ℕ → Bool → SliceType → Bool → Bool
bad_plan count length key inter hierarchy = not (is_inter inter) || ltb max_poc count || below_zero count length key hierarchy

-- ---- what is given

-- A plan, or why there is none, with the record for the next one.
pub record Planning : Type 0 where
  pub answer : Result PicturePlan Refusal
  pub poc : EvcPoc

-- A call turned down leaves the record as it was.
abbrev pub refused_plan : Refusal → EvcPoc → Planning
refused_plan why r = record { answer = Err why; poc = r }

-- Slice type, depth, number and reference flag, with the record after.
abbrev pub planned : SliceType → ℕ → ℤ → Bool → EvcPoc → Planning
planned slice depth z flag r =
    record {
      answer = Ok (record { slice_type = slice; slice_depth = depth; poc_val = record { 0 = z }; slice_ref_flag = flag });
      poc = r;
    }

-- A key picture, or a multiple of the length: the number is the count, which is written into the record as number and as
-- previous, with offset 0. Whatever the record held is not read.
abbrev pub at_count : SliceType → ℕ → ℕ → Planning
at_count slice depth count = planned slice depth (pos count) true (record_of (pos count) count 0)

-- With the hierarchy, the depth at a place from 1 to length - 1 is the row's at the position one less.
abbrev pub depth_of : ℕ → ℕ
depth_of place = depth_rule (place - 1)

-- The number is derived, in a sub-group of the group's length, on the layer one less than the depth; where the derivation turns
-- it down, so does the planner. A picture is a reference unless it stands at the row's last depth.
abbrev pub derived_plan : SliceType → ℕ → Bool → Result PocVal Refusal → EvcPoc → Planning
derived_plan inter depth flag (Ok n) r = planned inter depth n.0 flag r
derived_plan inter depth flag (Err why) r = refused_plan why r

abbrev pub in_hierarchy : ℕ → ℕ → SliceType → EvcPoc → Planning
in_hierarchy length place inter r =
    let d = derive (floor_log2 length) (depth_of place - 1) r in
    derived_plan inter (depth_of place) (not (eqb (depth_of place) (depth_of (length - 1)))) d.answer d.poc

-- Without it the depth is 2 and no picture is a reference. The number is the count less the length; it is written into the
-- record, and nothing else is.
abbrev pub without_hierarchy : ℕ → ℕ → SliceType → EvcPoc → Planning
without_hierarchy count length inter r =
    planned inter 2 (pos (count - length)) false
    (record { poc_val = record { 0 = pos (count - length) }; prev_poc_val = r.prev_poc_val; prev_doc_offset = r.prev_doc_offset })

-- A key picture is I, also where the count is a multiple of the length.
abbrev pub decided_plan : ℕ → ℕ → Bool → SliceType → Bool → EvcPoc → Planning
decided_plan count length key inter hierarchy r =
    cond key (at_count SliceType.EVC_ST_I 0 count)
    (cond (eqb (count % length) 0) (at_count inter 1 count)
    (cond hierarchy (in_hierarchy length (count % length) inter r) (without_hierarchy count length inter r)))

-- 17 for the length first, then 19; then, where the derivation runs, its own.
unfoldable pub plan : ℕ → ℕ → ℕ → ℕ → Bool → EvcPoc → Planning
unfolding floor_log2 depth_rule offset_from derive
plan count length interval inter hierarchy r =
    let key = is_key count interval in
    let slice = slice_type_of inter in
    cond (not (is_gop_size length)) (refused_plan Refusal.BadLength r)
    (cond (bad_plan count length key slice hierarchy) (refused_plan Refusal.BadPlan r)
    (decided_plan count length key slice hierarchy r))
