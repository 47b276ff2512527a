-- Numbers of four bytes, the highest first, flags of one byte, and the picture number record, in bytes that a caller lends.
-- Assumes nothing.
use Rattle.std.specs.Prelude.{ℕ, ◌+◌, Bool, cond, List, ◌++◌, eqb}
use Rattle.def.specs.Word.{word, word_bytes, twos_complement, signed_of}
use Rattle.def.specs.declared.EvcPoc.{EvcPoc}
pub use Rattle.def.specs.Word.{byte_at}

abbrev pub word_width : ℕ
word_width = 4

abbrev pub poc_width : ℕ
poc_width = 12

-- ---- the bytes of each

abbrev pub flag_byte : Bool → ℕ
flag_byte b = cond b 1 0

unfoldable pub poc_bytes : EvcPoc → List ℕ
poc_bytes r =
    word_bytes (twos_complement r.poc_val.0)
    ++ (word_bytes r.prev_poc_val ++ word_bytes (twos_complement r.prev_doc_offset.0))

-- ---- what the bytes at a place stand for

abbrev pub flag_at : List ℕ → ℕ → Bool
flag_at bs i = eqb (byte_at bs i) 1

unfoldable pub word_at : List ℕ → ℕ → ℕ
word_at bs i = word (byte_at bs i) (byte_at bs (i + 1)) (byte_at bs (i + 2)) (byte_at bs (i + 3))

unfoldable pub poc_at : List ℕ → ℕ → EvcPoc
unfolding word_at
poc_at bs i = record {
  poc_val = record { 0 = signed_of (word_at bs i) };
  prev_poc_val = word_at bs (i + 4);
  prev_doc_offset = record { 0 = signed_of (word_at bs (i + 8)) };
}
