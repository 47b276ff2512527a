-- `recording::derive_on` meets its contract: the sizes are tested, and the number derived on the record. Assumes nothing.
use mathlib.Core.Path.{refl, sym, ap, ◌∙◌}
use Rattle.answering.specs.Answered.{answer_word}
use Rattle.running.specs.Slices.{Slices, slices}
use Rattle.running.proofs.Answering.{wrong_size, good-line}
use Rattle.sizing.proofs.Sized.{sized-long}
use borrow.Author.Rules.{rules}
use Rattle.recording.proofs.derive_on.Goals as goal

pub returns-then-not-is_sized : goal.returns-then-not-is_sized
returns-then-not-is_sized c =
    let wrong = wrong_size _ (slices c.args.keys.now c.args.rows.now c.args.registers.now) (sym c.is_sized.ensures ∙ c.if-not-is_sized.true) in
    record { answers = c.answer_word.ensures ∙ ap answer_word (c.bad_line_reply.ensures ∙ wrong.0); leaves = wrong.1 }

pub derive_record-requires : goal.derive_record-requires
derive_record-requires c = (sized-long (slices c.args.keys.now c.args.rows.now c.args.registers.now) (sym c.is_sized.ensures ∙ c.if-not-is_sized.false)).1

pub returns : goal.returns
returns c =
    let s : Slices = slices c.args.keys.now c.args.rows.now c.args.registers.now in
    let leaves = c.derive_record.ensures s.keys s.rows (sized-long s (sym c.is_sized.ensures ∙ c.if-not-is_sized.false)).0 in
    let made = good-line s _ (sym c.is_sized.ensures ∙ c.if-not-is_sized.false) leaves refl refl (search rules) in
    record { answers = c.answer_word-2.ensures ∙ ap answer_word made.0; leaves = made.1 }
