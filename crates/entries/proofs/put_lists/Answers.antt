-- `entries::put_lists` meets its contract: each entry is the one at its place of the rows. Assumes nothing.
use Rattle.std.proofs.Common.{rules}
use Rattle.keys.specs.Keys.{entry_at}
use Rattle.seq.proofs.Made.{made}
use Rattle.entries.proofs.put_lists.Goals as goal

pub returns : goal.returns
returns c = made _ (entry_at c.args.rows.now) _ _ (λ i l y q called. search (rules, called)) c.from_fn.ensures.items
