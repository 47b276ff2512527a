-- Its parts stand one behind the other.
use Rattle.phrases.proofs.Adding.{added_then}
use Rattle.saying.specs.Words.{answer_words}
use Rattle.saying.proofs.put_answer.Goals as goal

pub returns-clause-added : goal.returns-clause-added
unfolding answer_words
returns-clause-added c =
    added_then c.add_name-a.ensures.added (added_then c.add-b.ensures (added_then c.add_status-c.ensures.added c.add.ensures))
