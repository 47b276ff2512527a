use Rattle.std.proofs.Common.{◌≡◌, arith}
use Rattle.std.proofs.lemmas.Result.{err_from_is_err_and}
use Rattle.keys.specs.Keys.{Sized}
use Rattle.picman.specs.OnKeys.{with_refs}
use Rattle.picman.proofs.PutOnKeys.{room_for, reference-in, found-free, on-taken, on-placed}
use Rattle.picman.proofs.place.place_marked.Goals as goal

pub place_for-requires : goal.place_for-requires
place_for-requires c =
    let a = c.args in
    let sized : Sized a.next.now a.rows.now = record { slots_long = c.told-next; rows_long = c.requires.0.rows_long } in
    let h = reference-in a.next.now a.rows.now (with_refs a.rest.now a.count) sized c.requires.1 c.requires.2 a.call in
    omega (arith, h, c.told-next)

pub returns-in_err-pos : goal.returns-in_err-pos
returns-in_err-pos c =
    let a = c.args in
    let sized : Sized a.next.now a.rows.now = record { slots_long = c.told-next; rows_long = c.requires.0.rows_long } in
    let f = err_from_is_err_and c.from_residual.result c.from_residual.ensures.1 in
    let same : f.0 ≡ c.in_err-pos.field-0.0 = f.2 in
    rw (f.1, same)
    (on-taken a.next.now a.rows.now (with_refs a.rest.now a.count) sized c.requires.1 c.requires.2 a.call a.keys.now a.rest.now c.requires.0.slots_long
    c.in_err-pos.field-0.0
    c.in_err-pos.ensures)

pub picman_set_pic_to_pb-requires : goal.picman_set_pic_to_pb-requires
picman_set_pic_to_pb-requires c =
    let a = c.args in
    let sized : Sized a.next.now a.rows.now = record { slots_long = c.told-next; rows_long = c.requires.0.rows_long } in
    let found = found-free a.next.now a.rows.now (with_refs a.rest.now a.count) sized c.requires.1 c.requires.2 a.call c.in_ok-pos.pos c.in_ok-pos.ensures in
    rw c.copy_from_slice.ensures.after
    (sized, room_for a.next.now a.rows.now (with_refs a.rest.now a.count) sized c.requires.1 c.requires.2 a.call _ found.2)

pub returns : goal.returns
returns c =
    let a = c.args in
    let sized : Sized a.next.now a.rows.now = record { slots_long = c.told-next; rows_long = c.requires.0.rows_long } in
    on-placed a.next.now a.rows.now (with_refs a.rest.now a.count) sized c.requires.1 c.requires.2 a.call a.keys.now a.rest.now c.requires.0.slots_long _ _ _ _
    c.in_ok-pos.pos
    c.in_ok-pos.ensures
    (rw c.copy_from_slice.ensures.after at c.picman_set_pic_to_pb.ensures)
