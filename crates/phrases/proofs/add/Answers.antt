-- `phrases::add` meets its contract: what stands in the buffer in front of the text and behind it stays.
-- Assumes nothing.
use mathlib.Core.Path.{refl}
use Rattle.phrases.proofs.Adding.{put-text}
use Rattle.phrases.proofs.add.Goals as goal

pub returns : goal.returns
returns c = record { holds = rw c.copy_from_slice.ensures.after (put-text c.args.out.now c.args.text.now c.args.at c.requires); behind = refl }
