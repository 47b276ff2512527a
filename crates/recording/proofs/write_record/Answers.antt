-- `recording::write_record` meets its contract: the record's three registers are written. Assumes nothing.
use mathlib.Core.Path.{◌∙◌}
use Rattle.std.specs.Int.{w32, cast_signed, cast_unsigned}
use Rattle.def.proofs.WordLaws.{cast_unsigned_is}
use Rattle.registers.proofs.Kept.{bits}
use Rattle.recording.proofs.Writing.{recorded}
use Rattle.recording.proofs.write_record.Goals as goal

pub returns : goal.returns
returns c =
    let fields = c.well_formed.1.0.1.1 in
    rw (
      c.cast_unsigned-2.ensures ∙ cast_unsigned_is (cast_signed w32 (cast_unsigned w32 c.args.poc.prev_doc_offset.0)),
      c.cast_unsigned.ensures ∙ cast_unsigned_is (cast_signed w32 (cast_unsigned w32 c.args.poc.poc_val.0)),
      bits c.args.poc.poc_val.0 fields.0.1.1.0.1,
      bits c.args.poc.prev_doc_offset.0 fields.1.1.0.1.1.0.1,
    )
    (recorded c.args.registers.now c.args.poc _ c.requires c.well_formed.1.0)
