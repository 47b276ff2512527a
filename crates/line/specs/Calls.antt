-- Call lines: which bodies are calls, and what their fields are. Any other line is bad, refusal 18.
-- Assumes nothing.
use Rattle.std.specs.Prelude.{ℕ, Bool, cond, ◌&&◌, List, [], ◌∷◌, ◌++◌, ltb, eqb, length, Option, Some, None}
use Rattle.line.specs.declared.Call.{Call}
use Rattle.line.specs.declared.Call.TheVariants.{Init, GetEmptyPic, PutPic, OutPic, RefpInit, PocDerivation}
use Rattle.hex_digits.specs.Hex.{bytes_of, sum8, word_bytes}
use Rattle.hex_digits.specs.Frame.{byte_at, word_at, body_of, Kind, from_bytes, from_line}

-- The longest call line has 26 digits.
abbrev pub longest_line : ℕ
longest_line = 26

-- A call's kind goes by its call byte, which stands first, and by the length of its body.
abbrev pub is_call : ℕ → ℕ → List ℕ → Bool
is_call call size body = eqb (byte_at body 0) call && eqb (length body) size

-- The flags of a put: 1 IDR, 2 wanted for output, 4 reference, 8 no picture. There are no others.
abbrev pub highest_flags : ℕ
highest_flags = 15

abbrev pub bad_flags : ℕ → Bool
bad_flags flags = ltb highest_flags flags

abbrev pub put_in : List ℕ → Option Call
put_in b =
    cond (bad_flags (byte_at b 1)) None
    (Some (PutPic (byte_at b 1) (word_at b 2 3 4 5) (byte_at b 6) (word_at b 7 8 9 10)))

abbrev pub lists_in : List ℕ → Call
lists_in b = RefpInit (byte_at b 1) (word_at b 2 3 4 5) (byte_at b 6) (word_at b 7 8 9 10) (byte_at b 11)

-- The call that a body stands for.
unfoldable pub call_in : List ℕ → Option Call
call_in b =
    cond (is_call 1 3 b) (Some (Init (byte_at b 1) (byte_at b 2)))
    (cond (is_call 2 1 b) (Some GetEmptyPic)
    (cond (is_call 3 11 b) (put_in b)
    (cond (is_call 4 1 b) (Some OutPic)
    (cond (is_call 5 12 b) (Some (lists_in b))
    (cond (is_call 6 3 b) (Some (PocDerivation (byte_at b 1) (byte_at b 2))) None)))))

-- The body of a call: its call byte, then its fields, numbers in four bytes, the highest first.
abbrev pub call_bytes : Call → List ℕ
call_bytes (Init size refs) = 1 ∷ size ∷ refs ∷ []
call_bytes GetEmptyPic = 2 ∷ []
call_bytes (PutPic flags poc layer gap) = 3 ∷ flags ∷ (word_bytes poc ++ (layer ∷ word_bytes gap))
call_bytes OutPic = 4 ∷ []
call_bytes (RefpInit slice poc layer intra limit) = 5 ∷ slice ∷ (word_bytes poc ++ (layer ∷ (word_bytes intra ++ (limit ∷ []))))
call_bytes (PocDerivation length layer) = 6 ∷ length ∷ layer ∷ []

unfoldable pub call_kind : Kind Call
unfolding call_in
call_kind = record { meaning = call_in; body = call_bytes }

-- The bytes of a call line, check byte last; nothing where they are a bad line.
unfoldable pub call_from : List ℕ → Option Call
unfolding sum8 body_of call_kind
call_from bs = from_bytes call_kind bs

-- The characters of a call line, without its newline.
unfoldable pub read_line : List ℕ → Option Call
unfolding bytes_of sum8 body_of call_kind
read_line cs = from_line call_kind cs
