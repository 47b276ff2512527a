-- `making::make_call` meets its contract, call by call. Assumes nothing.
use mathlib.Core.Path.{refl}
use Rattle.machine.specs.Step.{step}
use Rattle.machine.proofs.Running.{room-runs, by_call, record-makes}
use Rattle.making.proofs.make_call.Goals as goal

pub init_call-requires : goal.init_call-requires
init_call-requires c =
    room-runs c.requires c.in-Init.is refl

pub get_call-requires : goal.get_call-requires
get_call-requires c =
    room-runs c.requires c.in-GetEmptyPic.is refl

pub put_call-requires : goal.put_call-requires
put_call-requires c =
    room-runs c.requires c.in-PutPic.is refl

pub out_call-requires : goal.out_call-requires
out_call-requires c =
    room-runs c.requires c.in-OutPic.is refl

pub refp_call-requires : goal.refp_call-requires
refp_call-requires c =
    room-runs c.requires c.in-RefpInit.is refl

pub returns-in-Init : goal.returns-in-Init
unfolding step
returns-in-Init c = by_call c.in-Init.is c.init_call.ensures

pub returns-in-GetEmptyPic : goal.returns-in-GetEmptyPic
unfolding step
returns-in-GetEmptyPic c =
    by_call c.in-GetEmptyPic.is c.get_call.ensures

pub returns-in-PutPic : goal.returns-in-PutPic
unfolding step
returns-in-PutPic c =
    by_call c.in-PutPic.is (rw c.put_call_of.ensures at c.put_call.ensures)

pub returns-in-OutPic : goal.returns-in-OutPic
unfolding step
returns-in-OutPic c =
    by_call c.in-OutPic.is c.out_call.ensures

pub returns-in-RefpInit : goal.returns-in-RefpInit
unfolding step
returns-in-RefpInit c =
    by_call c.in-RefpInit.is (rw c.refp_call_of.ensures at c.refp_call.ensures)

pub returns-in-PocDerivation : goal.returns-in-PocDerivation
unfolding step
returns-in-PocDerivation c =
    by_call c.in-PocDerivation.is (record-makes c.args.keys.now c.args.rows.now c.args.s.now _ _ c.requires.sized c.poc_call.ensures.reply c.poc_call.ensures.scalars)
