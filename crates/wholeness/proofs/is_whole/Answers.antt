use Rattle.wholeness.proofs.KeyRules.{whole-told}
use Rattle.wholeness.proofs.is_whole.Goals as goal

pub returns : goal.returns
returns c rows =
    whole-told c.args.keys.now rows c.args.rest c.tally_all-slots.result c.tally_key-all.result c.tally_all-slots.ensures.0 c.tally_key-all.ensures
