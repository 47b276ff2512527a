-- Each answer brings the reader closer to the end. Assumes nothing.
use Rattle.std.proofs.Common.{refl}
use Rattle.reader.proofs.Steps.{goes_on}
use Rattle.reader.proofs.AnswerReaderIterator.next.Goals as goal

pub returns-clause-goes : goal.returns-clause-goes
returns-clause-goes c = goes_on c.args.self.now _ c.answer_at-read.result c.answer_at-read.ensures refl c.after_line-self.ensures
