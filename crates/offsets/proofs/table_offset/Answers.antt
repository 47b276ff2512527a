-- `offsets::table_offset` meets its contract. The constant table is the list that `entry_at` makes: the checker computes that over all 512
-- entries where the two are compared, and `entry-is` carries it to the entry that is read. Assumes nothing.
use mathlib.Core.Path.{◌≡◌}
use Prim.Native.Nat.{ℕ, ◌+◌, ◌*◌, ◌%◌, ◌^◌}
use native.Mathlib.Omega.{arith}
use lib.Ieee.{size, span, climb}
use Rattle.seq.specs.Lists.{entries, entries_from}
use Rattle.def.specs.Binary.{floor_log2}
use Rattle.poc.specs.Standard.{expected_temporal_id}
use Rattle.poc.specs.Domain.{InTable}
use Rattle.poc.proofs.Words.{shifted}
use Rattle.offsets.proofs.OffsetTable.{row_entry, entry_at, entry-is, read_back}
use Rattle.offsets.proofs.table_offset.Goals as goal

-- the place, as the machine has it
place : {L d : ℕ} → InTable L d → 1 * 2 ^ L % 4294967296 + d ≡ 2 ^ L + d
place {L} h = let s = h.short in rw (shifted L (omega arith))

pub returns : goal.returns
unfolding entries entries_from entry_at row_entry expected_temporal_id floor_log2 size span climb
returns c = let h = c.requires in read_back h (entry-is h _ (place h))
