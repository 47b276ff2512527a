-- Its parts stand one behind the other.
use Rattle.phrases.proofs.Adding.{added_then}
use Rattle.saying.specs.Words.{bad_line_words}
use Rattle.saying.proofs.put_bad.Goals as goal

pub returns-clause-added : goal.returns-clause-added
unfolding bad_line_words
returns-clause-added c = added_then c.add-a.ensures (added_then c.add_number-b.ensures.added c.add.ensures)
