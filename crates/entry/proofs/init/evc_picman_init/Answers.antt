use Rattle.std.proofs.Common.{◌≡◌, Err, rules}
use Rattle.entry.proofs.Calling.{turned-away, still-whole, gives}
use Rattle.entry.proofs.Defining.{init-defined}
use Rattle.entry.proofs.init.evc_picman_init.Goals as goal

pub returns-in_err-rest : goal.returns-in_err-rest
returns-in_err-rest c =
    let is : c.from_residual.result ≡ Err c.in_err-rest.field-0.0 = search rules in
    rw is (turned-away (init-defined c.args.max_pb_size c.args.max_num_ref_pics) (c.open_state.ensures) c.in_err-rest.was)

pub put_together-requires : goal.put_together-requires
put_together-requires c =
    let came = (c.init-done.ensures _ _ c.open_state.ensures.sized).comes in
    (came.still_sized, still-whole (init-defined c.args.max_pb_size c.args.max_num_ref_pics) (c.open_state.ensures) c.in_ok-rest.was came)

pub returns : goal.returns
returns c = rw c.put_together.ensures (gives (init-defined c.args.max_pb_size c.args.max_num_ref_pics) (c.open_state.ensures) c.in_ok-rest.was ((c.init-done.ensures _ _ c.open_state.ensures.sized).comes))
