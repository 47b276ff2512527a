-- A slot is five bytes, a number and the list, stored one after the other.
-- Assumes nothing.
use Rattle.std.proofs.Common.{refl}
use Rattle.seq.proofs.Stores.{stored_one, stored-then}
use Rattle.image.specs.Image.{flag_byte, slot_bytes, list_bytes}
use Rattle.image.proofs.parts.SlotPart.write.Goals as goal

pub returns : goal.returns
unfolding slot_bytes list_bytes
returns c =
    let s = c.args.self.now in
    stored-then
    (stored-then
    (stored-then
    (stored-then
    (stored-then
    (stored-then (stored_one (flag_byte s.present) c.flag_byte.ensures) (stored_one s.buf refl))
    (stored_one (flag_byte s.pic.is_ref) c.flag_byte-2.ensures))
    (stored_one (flag_byte s.pic.need_for_out) c.flag_byte-3.ensures))
    (stored_one s.pic.temporal_id refl))
    c.write_word.ensures)
    c.write_row.ensures
