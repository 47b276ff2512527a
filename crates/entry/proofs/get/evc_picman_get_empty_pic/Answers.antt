use Rattle.std.proofs.Common.{◌≡◌, Err, rules}
use Rattle.entry.proofs.Opened.{opened-whole}
use Rattle.entry.proofs.Calling.{turned-away, still-whole, gives}
use Rattle.entry.proofs.Defining.{get-defined}
use Rattle.entry.proofs.get.evc_picman_get_empty_pic.Goals as goal

pub returns-in_err-rest : goal.returns-in_err-rest
returns-in_err-rest c =
    let is : c.from_residual.result ≡ Err c.in_err-rest.field-0.0 = search rules in
    rw is (turned-away (get-defined) (c.open_state.ensures) c.in_err-rest.was)

pub get-leased-requires : goal.get-leased-requires
get-leased-requires c = (c.open_state.ensures.sized, opened-whole c.open_state.ensures c.in_ok-rest.was)

pub put_together-requires : goal.put_together-requires
put_together-requires c =
    let came = c.get-leased.ensures.comes in
    (came.still_sized, still-whole (get-defined) (c.open_state.ensures) c.in_ok-rest.was came)

pub returns : goal.returns
returns c = rw c.put_together.ensures (gives (get-defined) (c.open_state.ensures) c.in_ok-rest.was (c.get-leased.ensures.comes))
