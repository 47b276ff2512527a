-- `listing::evc_picman_refp_init` meets its contract: a state that is not whole stays, and else the core's call is the definition's. Assumes nothing.
use Rattle.entry.proofs.Opened.{opened-whole}
use Rattle.entry.proofs.Defining.{opened}
use Rattle.listing.proofs.Listed.{lists-turned-away, lists-still-whole, lists-come-to}
use Rattle.listing.proofs.evc_picman_refp_init.Goals as goal

pub returns-in_default : goal.returns-in_default
returns-in_default c = lists-turned-away (opened c.take_lists.ensures c.open_state.ensures) _ c.in_default.not-Ok

pub refp_init-given-requires : goal.refp_init-given-requires
refp_init-given-requires c =
    let o = opened c.take_lists.ensures c.open_state.ensures in
    record { sized = o.sized; is_whole = opened-whole o c.in-Ok.is }

pub put_together-requires : goal.put_together-requires
put_together-requires c =
    let o = opened c.take_lists.ensures c.open_state.ensures in
    let came = c.refp_init-given.ensures.comes in
    (came.lists_sized, lists-still-whole o _ c.in-Ok.is came)

pub returns : goal.returns
returns c =
    let o = opened c.take_lists.ensures c.open_state.ensures in
    rw (c.put_lists.ensures, c.put_together.ensures)
    (lists-come-to o _ c.in-Ok.is c.refp_init-given.ensures.comes)
