use Rattle.std.proofs.Common.{rules}
use Rattle.keys.specs.Keys.{key_empty}
use Rattle.store.proofs.Highest.{place-told}
use Rattle.store.proofs.places.highest_empty.Goals as goal

pub returns : goal.returns
returns c =
    place-told 0 key_empty c.args.keys.now c.rposition.result (λ i e. (search (rules, e), search (rules, e), λ k l m. search (rules, e)))
    (λ e k l. search (rules, e))
