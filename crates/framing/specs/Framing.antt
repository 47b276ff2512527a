-- The bytes of a framed line, and the line of a body with its newline and its length.
-- Assumes nothing.
use Rattle.std.specs.Prelude.{ℕ, ◌+◌, ◌*◌, cond, ◌&&◌, eqb, List, [], ◌∷◌, ◌++◌, length, Option, Some, None}
use Rattle.buffer.specs.Buffer.{newline}
use Rattle.hex_digits.specs.Hex.{bytes_of}
use Rattle.hex_digits.specs.Frame.{is_framed, framed}

-- The n bytes of a framed line, check byte last.
abbrev pub bytes_framed : ℕ → List ℕ → Option (List ℕ)
bytes_framed n cs = cond (eqb (length cs) (2 * n) && is_framed cs) (Some (bytes_of cs)) None

abbrev pub whole_of : List ℕ → List ℕ
whole_of body = framed body ++ (newline ∷ [])

-- Two digits a byte, the check byte's too, and the newline.
abbrev pub line_size : List ℕ → ℕ
line_size body = 2 * length body + 3
