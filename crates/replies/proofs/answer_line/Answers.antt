-- `replies::answer_line` meets its contract: the line of the body fills the array. Assumes nothing.
use Rattle.std.proofs.Common.{ℕ, [], ◌∷◌, replicate, ◌∙◌, arith}
use lib.ListN.{length-replicate, length-append}
use Rattle.buffer.specs.Buffer.{newline}
use Rattle.hex_digits.specs.Frame.{framed}
use Rattle.buffer.proofs.Pasting.{paste_all}
use Rattle.framing.specs.Framing.{whole_of}
use Rattle.framing.proofs.Standing.{framed-size}
use Rattle.line.specs.Answers.{reply_bytes, answer_digits, answer_line}
use Rattle.replies.proofs.answer_line.Goals as goal

pub returns : goal.returns
unfolding answer_line answer_digits
returns c =
    let body = reply_bytes c.args.reply in
    let written = rw c.reply_bytes.ensures at c.write_framed.ensures.1 in
    written ∙ paste_all 17 (replicate 17 0) (whole_of body) (length-replicate {A = ℕ} 17 0) (omega (arith, framed-size body, length-append (framed body) (newline ∷ [])))
