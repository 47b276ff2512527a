-- `replies::write_reply` meets its contract: what is copied is the line, digit for digit. Assumes nothing.
use Rattle.std.proofs.Common.{◌≡◌, length, rules, refl, arith}
use Rattle.std.proofs.lemmas.Slice.{put_mid-paste}
use Rattle.hex_digits.specs.Hex.{digits_of}
use Rattle.line.specs.Answers.{answer_digits, answer_line}
use Rattle.replies.proofs.write_reply.Goals as goal

pub returns-clause-line : goal.returns-clause-line
unfolding answer_line answer_digits digits_of
returns-clause-line c =
    let same : c.copy_from_slice.new.self ≡ answer_line c.args.reply = search rules in
    let size : 17 ≡ length (answer_line c.args.reply) = refl in
    put_mid-paste _ _ _ _ _ 17 same (omega arith) size
