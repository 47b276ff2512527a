-- `image::writing::write_scalars` meets its contract: six bytes, a number and a byte, stored one after the other.
-- Assumes nothing.
use Rattle.std.proofs.Common.{refl}
use Rattle.seq.proofs.Stores.{stored_one, stored-then}
use Rattle.image.specs.Image.{scalar_bytes}
use Rattle.image.proofs.writing.write_scalars.Goals as goal

pub returns : goal.returns
unfolding scalar_bytes
returns c =
    let pm = c.args.pm.now in
    stored-then
    (stored-then
    (stored-then
    (stored-then
    (stored-then
    (stored-then
    (stored-then (stored_one pm.max_pb_size refl) (stored_one pm.max_num_ref_pics refl))
    (stored_one pm.cur_pb_size refl))
    (stored_one pm.cur_num_ref_pics refl))
    (stored_one pm.num_refp_0 refl))
    (stored_one pm.num_refp_1 refl))
    c.write_word.ensures)
    (stored_one pm.poc_increase refl)
