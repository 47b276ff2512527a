-- `lent_lines::read_record` meets its contract: the length is tested, and the record of what stands there written.
-- Assumes nothing.
use Rattle.std.proofs.Common.{length, eq-eqb, ne_eqb}
use Rattle.lent_lines.specs.LentLines.{record_length, read_out}
use Rattle.lent_lines.proofs.read_record.Goals as goal

pub returns-then-out-ne-RECORD_LENGTH : goal.returns-then-out-ne-RECORD_LENGTH
unfolding read_out
returns-then-out-ne-RECORD_LENGTH c = rw (c.from.ensures, ne_eqb _ record_length c.if-out-ne-RECORD_LENGTH.true)

pub returns : goal.returns
unfolding read_out
returns c =
    rw (
      eq-eqb (length c.args.out.now) record_length c.if-out-ne-RECORD_LENGTH.false,
      c.read_status.ensures,
      c.copy_from_slice.ensures.after,
      c.record_of.ensures,
      c.answer_at-read.ensures,
      c.after_line-next.ensures,
    )
