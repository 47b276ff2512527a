-- `transfer::save_machine` meets its contract: a state that is not whole is turned down, and else the machine is put together. Assumes nothing.
use mathlib.Core.Path.{sym, ◌∙◌}
use Rattle.machine.specs.Lent.{slices}
use Rattle.sizing.proofs.Sized.{sized-long}
use Rattle.transfer.proofs.Exchanging.{save-not-whole, save-done}
use Rattle.transfer.proofs.save_machine.Goals as goal

pub rest_of-rest-requires : goal.rest_of-rest-requires
rest_of-rest-requires c = (sized-long (slices c.args.keys.now c.args.rows.now c.args.registers.now) c.requires.0).1

pub is_whole-requires : goal.is_whole-requires
is_whole-requires c = (sized-long (slices c.args.keys.now c.args.rows.now c.args.registers.now) c.requires.0).0.slots_long

pub returns-then-not-is_whole : goal.returns-then-not-is_whole
returns-then-not-is_whole c =
    save-not-whole _ _ _ _ c.requires.0 c.requires.1
    (rw c.rest_of-rest.ensures at (sym (c.is_whole.ensures c.args.rows.now) ∙ c.if-not-is_whole.true))

pub poc_of-poc-requires : goal.poc_of-poc-requires
poc_of-poc-requires c = (sized-long (slices c.args.keys.now c.args.rows.now c.args.registers.now) c.requires.0).1

pub put_machine-requires : goal.put_machine-requires
put_machine-requires c =
    record { sized = (sized-long (slices c.args.keys.now c.args.rows.now c.args.registers.now) c.requires.0).0; whole_state = sym (c.is_whole.ensures c.args.rows.now) ∙ c.if-not-is_whole.false }

pub returns : goal.returns
returns c =
    save-done _ _ _ _ c.requires.0 c.requires.1
    (rw c.rest_of-rest.ensures at (sym (c.is_whole.ensures c.args.rows.now) ∙ c.if-not-is_whole.false)) _ _
    c.put_machine.ensures (sym c.rest_of-rest.ensures) (sym c.poc_of-poc.ensures) _
    c.write_machine.ensures.bytes c.write_machine.ensures.holds
