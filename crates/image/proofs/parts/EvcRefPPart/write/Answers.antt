-- An entry is two bytes, a number and the list, stored one after the other.
-- Assumes nothing.
use Rattle.std.proofs.Common.{refl}
use Rattle.seq.proofs.Stores.{stored_one, stored-then}
use Rattle.image.specs.Image.{flag_byte, refp_bytes, list_bytes}
use Rattle.image.proofs.parts.EvcRefPPart.write.Goals as goal

pub returns : goal.returns
unfolding refp_bytes list_bytes
returns c =
    let e = c.args.self.now in
    stored-then (stored-then (stored-then (stored_one (flag_byte e.present) c.flag_byte.ensures) (stored_one e.buf refl)) c.write_word.ensures)
    c.write_row.ensures
