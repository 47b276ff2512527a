-- Its parts stand one behind the other.
use Rattle.phrases.proofs.Adding.{added_then}
use Rattle.showing.proofs.add_counts.Goals as goal

pub returns-clause-added : goal.returns-clause-added
returns-clause-added c = rw (← c.from.ensures, ← c.from-2.ensures) (added_then c.add_number-a.ensures.added (added_then c.add-b.ensures (added_then c.add_number-c.ensures.added c.add.ensures)))
