-- `transfer::load_image` meets its contract: a state that is not whole is turned down, and else the machine is taken apart. Assumes nothing.
use mathlib.Core.Path.{sym, ap, ◌∙◌}
use Rattle.whole.specs.Whole.{whole}
use Rattle.machine.specs.declared.Machine.{Machine}
use Rattle.image.proofs.BytesKept.{image-long}
use Rattle.machine.specs.Lent.{slices}
use Rattle.sizing.proofs.Sized.{sized-long}
use Rattle.transfer.proofs.Exchanging.{load-not-whole, load-done}
use Rattle.transfer.proofs.load_image.Goals as goal

pub read_machine-m-requires : goal.read_machine-m-requires
read_machine-m-requires c = image-long _ c.requires.1

pub returns-then-not-state_is_whole : goal.returns-then-not-state_is_whole
returns-then-not-state_is_whole c =
    load-not-whole _ _ _ _ c.requires.0 c.requires.1
    (ap (λ (m : Machine). whole m.pm) (sym c.read_machine-m.ensures) ∙ sym c.state_is_whole.ensures ∙ c.if-not-state_is_whole.true)

pub take_machine-s-requires : goal.take_machine-s-requires
take_machine-s-requires c =
    (sized-long (slices c.args.keys.now c.args.rows.now c.args.registers.now) c.requires.0).0

pub store-requires : goal.store-requires
store-requires c =
    (sized-long (slices c.args.keys.now c.args.rows.now c.args.registers.now) c.requires.0).1

pub returns : goal.returns
returns c =
    let kept = c.store.ensures.kept in
    load-done _ _ _ _ c.requires.0 c.requires.1 _ c.read_machine-m.ensures (sym c.state_is_whole.ensures ∙ c.if-not-state_is_whole.false) _ _ _ _
    c.take_machine-s.ensures kept.0 kept.1
