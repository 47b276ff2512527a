use Rattle.picman.proofs.PutOnKeys.{remarked-idr, remarked-mark}
use Rattle.picman.proofs.put.remark.Goals as goal

pub returns-then-call : goal.returns-then-call
returns-then-call c = rw c.picman_flush_pb.ensures (remarked-idr c.args.call c.args.keys.now c.requires.0 c.if-call.true)

pub returns : goal.returns
returns c = remarked-mark c.args.call c.args.keys.now c.requires.0 _ _ c.if-call.false c.requires.1 c.pic_marking_no_rpl.ensures
