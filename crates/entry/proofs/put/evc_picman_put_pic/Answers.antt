use Rattle.std.proofs.Common.{◌≡◌, Err, rules}
use Rattle.entry.proofs.Opened.{opened-whole}
use Rattle.entry.proofs.Calling.{turned-away, still-whole, gives}
use Rattle.entry.proofs.Defining.{put-defined, put-on-lists, opened}
use Rattle.entry.proofs.put.evc_picman_put_pic.Goals as goal

pub returns-in_err-rest : goal.returns-in_err-rest
returns-in_err-rest c =
    let is : c.from_residual.result ≡ Err c.in_err-rest.field-0.0 = search rules in
    rw is (turned-away (put-defined c.args.refp c.args.call) (opened c.take_lists.ensures c.open_state.ensures) c.in_err-rest.was)

pub put-placed-requires : goal.put-placed-requires
put-placed-requires c = (c.open_state.ensures.sized, opened-whole c.open_state.ensures c.in_ok-rest.was)

pub put_together-requires : goal.put_together-requires
put_together-requires c =
    let came = put-on-lists (opened c.take_lists.ensures c.open_state.ensures) c.args.call c.in_ok-rest.rest c.put-placed.ensures.comes in
    (came.still_sized, still-whole (put-defined c.args.refp c.args.call) (opened c.take_lists.ensures c.open_state.ensures) c.in_ok-rest.was came)

pub returns : goal.returns
returns c = rw c.put_together.ensures (gives (put-defined c.args.refp c.args.call) (opened c.take_lists.ensures c.open_state.ensures) c.in_ok-rest.was (put-on-lists (opened c.take_lists.ensures c.open_state.ensures) c.args.call c.in_ok-rest.rest c.put-placed.ensures.comes))
