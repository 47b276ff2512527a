use Rattle.std.proofs.Common.{◌≡◌, arith}
use Rattle.std.proofs.lemmas.Result.{err_from_is_err_and}
use Rattle.picman.proofs.PutOnKeys.{room_for, reference-in, found-free, on-taken, on-placed}
use Rattle.picman.proofs.place.place_unmarked.Goals as goal

pub place_for-requires : goal.place_for-requires
place_for-requires c =
    let a = c.args in
    let h = reference-in a.keys.now a.rows.now a.rest.now c.requires.0 c.requires.1 c.requires.2 a.call in
    omega (arith, h, c.requires.0.slots_long)

pub returns-in_err-pos : goal.returns-in_err-pos
returns-in_err-pos c =
    let a = c.args in
    let f = err_from_is_err_and c.from_residual.result c.from_residual.ensures.1 in
    let same : f.0 ≡ c.in_err-pos.field-0.0 = f.2 in
    rw (f.1, same)
    (on-taken a.keys.now a.rows.now a.rest.now c.requires.0 c.requires.1 c.requires.2 a.call a.keys.now a.rest.now c.requires.0.slots_long
    c.in_err-pos.field-0.0
    c.in_err-pos.ensures)

pub picman_set_pic_to_pb-requires : goal.picman_set_pic_to_pb-requires
picman_set_pic_to_pb-requires c =
    let a = c.args in (
      c.requires.0,
      room_for a.keys.now a.rows.now a.rest.now c.requires.0 c.requires.1 c.requires.2 a.call _
          (found-free a.keys.now a.rows.now a.rest.now c.requires.0 c.requires.1 c.requires.2 a.call c.in_ok-pos.pos c.in_ok-pos.ensures).2,
    )

pub returns : goal.returns
returns c =
    let a = c.args in
    on-placed a.keys.now a.rows.now a.rest.now c.requires.0 c.requires.1 c.requires.2 a.call a.keys.now a.rest.now c.requires.0.slots_long _ _ _ _
    c.in_ok-pos.pos
    c.in_ok-pos.ensures
    c.picman_set_pic_to_pb.ensures
