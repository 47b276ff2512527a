-- What holds of the slices apart from any function: a wrong size is answered with 18, and a state that is not whole with 7. The proofs
-- stand in proofs/Claims.antt.
-- Assumes nothing.
use Rattle.std.specs.Prelude.{◌≡◌, true, false, Option, Some}
use Rattle.line.specs.declared.Call.{Call}
use Rattle.line.specs.Answers.{reply, no_buffer, bad_line_reply}
use Rattle.whole.specs.Whole.{whole}
use Rattle.machine.specs.Running.{reads_state, call_byte}
use Rattle.running.specs.Slices.{Slices, machine_at, sized, reply_to}

abbrev pub WrongSize : Type 0
WrongSize = (s : Slices) (line : Option Call) → sized s ≡ false → reply_to s line ≡ bad_line_reply

-- A derivation reads the record alone.
abbrev pub NotWhole : Type 0
NotWhole = (s : Slices) (call : Call) → sized s ≡ true → reads_state call ≡ true → whole (machine_at s).pm ≡ false
    → reply_to s (Some call) ≡ reply (call_byte call) 7 no_buffer 0
