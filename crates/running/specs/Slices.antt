-- The running machine as three slices that a caller owns: which machine any bits in them stand for, and what a line makes of them.
-- Assumes nothing.
use Rattle.std.specs.Prelude.{◌≡◌, true, cond, length, Option}
use Rattle.line.specs.declared.{Call.Call, Reply.Reply}
use Rattle.line.specs.Answers.{bad_line_reply}
use Rattle.machine.specs.Step.{step, step_line}
pub use Rattle.machine.specs.Lent.{Slices, slices, scalars_at, machine_at, sized}
use Rattle.machine.specs.Running.{OtherRowsStay}
use Rattle.machine.specs.Claims.{TurnedDown}

-- The reply to a line. A wrong size is answered as a bad line is.
unfoldable pub reply_to : Slices → Option Call → Reply
unfolding step_line
reply_to s line = cond (sized s) (step_line (machine_at s) line).reply bad_line_reply

-- A call on slices of the right sizes; one that is turned down leaves every number as it was.
pub record CallLeaves (r : Reply) (call : Call) (before after : Slices) : Type 0 where
  pub replies : r ≡ (step (machine_at before) call).reply
  pub machine_is : machine_at after ≡ (step (machine_at before) call).machine
  pub other_rows : OtherRowsStay r before.rows after.rows
  pub refused_leaves : TurnedDown r → after ≡ before

-- What any line leaves of any slices. A wrong size has a reply that turns down, so that it writes nothing is said too.
pub record Leaves (line : Option Call) (before after : Slices) : Type 0 where
  pub machine_is : sized before ≡ true → machine_at after ≡ (step_line (machine_at before) line).machine
  pub other_rows : OtherRowsStay (reply_to before line) before.rows after.rows
  pub refused_leaves : TurnedDown (reply_to before line) → after ≡ before
  pub keys_long : length after.keys ≡ length before.keys
  pub rows_long : length after.rows ≡ length before.rows
  pub registers_long : length after.registers ≡ length before.registers
