use Rattle.std.proofs.Common.{◌≡◌, ◌∙◌}
use Rattle.registers.specs.Registers.{registers_of}
use Rattle.registers.proofs.Kept.{rest-kept, poc-kept}
use Rattle.registers.proofs.store.Goals as goal

pub returns : goal.returns
returns c =
    let a = c.args in
    let whole : c.copy_from_slice.new.self ≡ registers_of a.rest a.poc = c.copy_from_slice.ensures.after ∙ c.words.ensures in
    record {
      written = whole;
      kept = rw whole (rest-kept a.rest a.poc _ c.well_formed.1.0, poc-kept a.rest a.poc _ c.well_formed.1.1.0);
    }
