use Rattle.picman.proofs.InitOnKeys.{on-too-big, on-set}
use Rattle.picman.proofs.init.init.Goals as goal

pub returns-then-max_pb_size-max_num_ref_pics : goal.returns-then-max_pb_size-max_num_ref_pics
returns-then-max_pb_size-max_num_ref_pics c = λ keys rows s.
    let a = c.args in
    on-too-big keys rows a.rest.now s a.max_pb_size a.max_num_ref_pics c.if-max_pb_size-max_num_ref_pics.true

pub returns : goal.returns
returns c = λ keys rows s. let a = c.args in on-set keys rows a.rest.now s a.max_pb_size a.max_num_ref_pics c.if-max_pb_size-max_num_ref_pics.false
