-- `lent_lines::write_line` meets its contract: no line is so long that its length would not stand above the status.
-- Assumes nothing.
use Rattle.std.proofs.Common.{◌≡◌, ℕ, ◌≤◌, List, ap}
use Rattle.std.specs.Prelude.{Result}
use Rattle.def.specs.declared.Refusal.{Refusal}
use Rattle.writer.specs.Writing.{WrittenOut, written, written_out}
use Rattle.lent_lines.specs.LentLines.{lent_out, written_length, written_word, wrote_out}
use Rattle.lent_lines.proofs.Sizes.{length-small}
use Rattle.lent_lines.proofs.write_line.Goals as goal

short : (fields target after : List ℕ) (w : Result ℕ Refusal) → written_out w after ≡ written fields target → written_length w ≤ 27
short fields target after w e = rw (ap (λ (o : WrittenOut). written_length o.given) e) (length-small fields target)

pub written_word-requires : goal.written_word-requires
written_word-requires c = short _ _ _ _ c.write_fields.ensures

pub returns : goal.returns
unfolding wrote_out
returns c = rw c.written_word.ensures (ap (λ (w : WrittenOut). lent_out (written_word w.given) w.target) c.write_fields.ensures)
