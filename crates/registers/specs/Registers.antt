-- The scalars of the running machine as thirteen numbers of 32 bits.
-- Assumes nothing.
use Rattle.std.specs.Prelude.{ℕ, ◌+◌, ◌*◌, ◌/◌, ◌%◌, ◌^◌, min, List, [], ◌∷◌, get_or}
use Rattle.def.specs.Word.{signed_of, twos_complement}
use Rattle.def.specs.declared.EvcPoc.{EvcPoc}
use Rattle.keys.specs.declared.Rest.{Rest}

abbrev pub registers_length : ℕ
registers_length = 13

-- A count is a byte; a higher number is read as the highest one.
abbrev pub highest_count : ℕ
highest_count = 255

abbrev pub count_at : List ℕ → ℕ → ℕ
count_at rs i = min (get_or rs i 0) highest_count

-- What any thirteen numbers are read as.
abbrev pub rest_of : List ℕ → Rest
rest_of rs = record {
  lease = get_or rs 0 0 + get_or rs 1 0 * 2 ^ 32;
  max_pb_size = count_at rs 6;
  max_num_ref_pics = count_at rs 7;
  cur_pb_size = count_at rs 8;
  cur_num_ref_pics = count_at rs 9;
  num_refp_0 = count_at rs 10;
  num_refp_1 = count_at rs 11;
  poc_next_output = get_or rs 2 0;
  poc_increase = count_at rs 12;
}

abbrev pub poc_of : List ℕ → EvcPoc
poc_of rs = record {
  poc_val = record { 0 = signed_of (get_or rs 3 0) };
  prev_poc_val = get_or rs 4 0;
  prev_doc_offset = record { 0 = signed_of (get_or rs 5 0) };
}

-- What is written.
abbrev pub registers_of : Rest → EvcPoc → List ℕ
registers_of r p =
    (r.lease % 2 ^ 32)
    ∷ (r.lease / 2 ^ 32)
    ∷ r.poc_next_output
    ∷ twos_complement p.poc_val.0
    ∷ p.prev_poc_val
    ∷ twos_complement p.prev_doc_offset.0
    ∷ r.max_pb_size
    ∷ r.max_num_ref_pics
    ∷ r.cur_pb_size
    ∷ r.cur_num_ref_pics
    ∷ r.num_refp_0
    ∷ r.num_refp_1
    ∷ r.poc_increase
    ∷ []
