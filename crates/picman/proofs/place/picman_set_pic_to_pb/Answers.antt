use Rattle.std.proofs.Common.{◌≡◌, ◌∙◌, ◌*◌, ◌+◌, ◌-◌, ◌<◌, ap, arith, rules, ℕ, List}
use borrow.Rule.Slice.PartMut.{put_mid}
use Rattle.std.proofs.Math.Seq.{paste}
use Rattle.keys.specs.Keys.{number_row, row_at}
use Rattle.keys.proofs.RowLaws.{front-pasted}
use Rattle.picman.proofs.PutOnKeys.{pic-placed}
use Rattle.picman.proofs.place.picman_set_pic_to_pb.Goals as goal

pub returns : goal.returns
returns c =
    let rows : List ℕ = c.args.rows.now in
    let at : ℕ = 21 * c.buffer_of-buf.result in
    let n : ℕ = c.args.rest.now.num_refp_0 in
    let layer_fits : c.args.call.temporal_id < 256 = search rules in
    let long : at + n - at ≡ n = omega arith in
    let written : put_mid at (at + n - at) rows c.copy_from_slice.new.self ≡ paste rows at (row_at rows number_row) n =
    ap (λ (k : ℕ). put_mid at k rows c.copy_from_slice.new.self) long
    ∙ ap (put_mid at n rows) c.copy_from_slice.ensures.after
    ∙ front-pasted rows c.read_row-numbers.result at n
    ∙ ap (λ (row : List ℕ). paste rows at row n) c.read_row-numbers.ensures in
    rw (written, c.key_of.ensures, c.buffer_of-buf.ensures.0, c.buffer_byte.ensures)
    (pic-placed c.args.keys.now c.args.rows.now c.args.rest.now c.args.call c.args.pos c.requires.0 c.requires.1 layer_fits)
