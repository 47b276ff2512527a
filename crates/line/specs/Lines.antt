-- A call line where it stands in a buffer of lines.
-- Assumes nothing.
use Rattle.std.specs.Prelude.{ℕ, ◌+◌, cond, List, ltb, length, Option, Some, None}
use Rattle.seq.specs.Lists.{lowest}
pub use Rattle.buffer.specs.Buffer.{newline, is_newline, last_line, line_end, line_at}
unfoldable pub use Rattle.buffer.specs.Buffer.{lines_from}
use Rattle.line.specs.declared.Call.{Call}
use Rattle.line.specs.Calls.{read_line}

-- A good line that starts at a place and ends with its newline inside the buffer: its call, and the place behind the newline.
-- Anything else there is no line.
abbrev pub whole_line : Option Call → ℕ → Option (Call × ℕ)
whole_line (Some call) next = Some (call, next)
whole_line None next = None

unfoldable pub call_at : List ℕ → ℕ → Option (Call × ℕ)
unfolding read_line lowest
call_at buffer at =
    cond (ltb (line_end buffer at) (length buffer)) (whole_line (read_line (line_at buffer at)) (line_end buffer at + 1)) None
