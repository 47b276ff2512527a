-- Part after part.
use Rattle.std.proofs.Common.{◌≡◌, length, ap, ◌∙◌, arith, rules, length-append}
use Rattle.std.proofs.Math.Seq.{take-length}
use Rattle.std.specs.Slice.Iter.{chunks_rest}
use Rattle.telling.proofs.Bytes.{no-parts, one-part-more, all-parts}
use Rattle.telling.proofs.tell_piece.Goals as goal

-- The parts are those of all of the piece.
pub loop-part-init : goal.loop-part-init
loop-part-init g c = (
  search rules,
  tt,
  search rules,
  let all : chunks_rest c.into_iter-part-iterator.result ≡ c.args.piece.now = search (rules, take-length) in
      rw all (no-parts g.L.Lines.told c.args.teller.now c.args.piece.now c.args.out.now c.args.err.now c.requires),
)

pub add-requires : goal.add-requires
add-requires g c =
    let steps = c.in-Some.ensures.steps in
    let parts = ap length steps.1.0 ∙ length-append c.in-Some.part.now (chunks_rest c.next.new.self) in
    let room = c.loop-part.invariant.3.out_room in
    let short = c.take_piece.ensures.out_short in
    let text = ap length c.output.ensures in
    omega arith

pub add-requires-in-loop-part : goal.add-requires-in-loop-part
add-requires-in-loop-part g c =
    let steps = c.in-Some.ensures.steps in
    let parts = ap length steps.1.0 ∙ length-append c.in-Some.part.now (chunks_rest c.next.new.self) in
    let room = c.loop-part.invariant.3.err_room in
    let short = c.take_piece.ensures.err_short in
    let text = ap length c.messages.ensures in
    omega arith

pub loop-part-preserved : goal.loop-part-preserved
loop-part-preserved g c =
    let steps = c.in-Some.ensures.steps in (
      search rules,
      tt,
      search rules,
      one-part-more g.L.Lines.told c.args.teller.now.speaker c.args.piece.now c.args.out.now c.args.err.now
          c.loop-part.invariant.3 steps.1.0 c.take_piece.ensures
          (rw c.output.ensures at c.add.ensures) (rw c.messages.ensures at c.add-in-loop-part.ensures),
    )

pub returns : goal.returns
returns g c =
    all-parts g.L.Lines.told c.args.teller.now.speaker c.args.piece.now c.args.out.now c.args.err.now
    c.loop-part.invariant.3 c.in-None.ensures.steps.1.0
