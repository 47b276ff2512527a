-- Its parts stand one behind the other.
use Rattle.std.proofs.Common.{rules, ◌≡◌}
use Rattle.phrases.proofs.Adding.{added_then}
use Rattle.wording.specs.Words.{status_word}
use Rattle.saying.proofs.add_turned_down.Goals as goal

pub returns-clause-added : goal.returns-clause-added
returns-clause-added c =
    let word : c.as_bytes.result.now ≡ status_word c.args.status = search rules in
    rw (← word, ← c.from.ensures) (added_then c.add-a.ensures (added_then c.add_number-b.ensures.added (added_then c.add-c.ensures c.add.ensures)))
