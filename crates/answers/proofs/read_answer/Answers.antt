-- `answers::read_answer` meets its contract: nothing is read where a test of the line failed. Assumes nothing.
use Rattle.std.proofs.Common.{◌≡◌, Bool, true, false, ◌&&◌, eqb, length, rules, sym, refl, ◌∙◌, eqb-true, List, ℕ}
use borrow.Author.Tests.{eqb-false}
use Rattle.std.specs.Prelude.{None}
use Rattle.seq.proofs.Tests.{and_left, and_right}
use Rattle.hex_digits.specs.Frame.{word_at, is_framed, from_line}
use Rattle.hex_digits.proofs.Tested.{test-failed, test-passed}
use Rattle.framing.proofs.Framed.{unframed}
use Rattle.line.specs.Answers.{answer_kind}
use Rattle.answers.proofs.AnswersRead.{other_length, bytes-read}
use Rattle.answers.proofs.read_answer.Goals as goal

pub returns-in_err-call : goal.returns-in_err-call
returns-in_err-call c =
    let cs = c.args.digits.now in
    let fails = test-failed (eqb (length cs) 16 && is_framed cs) _ (sym c.read_framed_array.ensures ∙ c.in_err-call.was) in
    let none : from_line answer_kind cs ≡ None = by cs (eqb (length cs) 16) refl fails in
    rw none (search rules)
  where
    by : (cs : List ℕ) (b : Bool) → eqb (length cs) 16 ≡ b → (eqb (length cs) 16 && is_framed cs) ≡ false → from_line answer_kind cs ≡ None
    by cs false e fails = other_length cs (eqb-false (length cs) 16 e)
    by cs true e fails = unframed answer_kind cs (rw e at fails)

pub returns : goal.returns
returns c =
    let cs = c.args.digits.now in
    let bs = c.in_ok-call.field-0 in
    let yes = test-passed (eqb (length cs) 16 && is_framed cs) _ bs (sym c.read_framed_array.ensures ∙ c.in_ok-call.was) in
    let sized = eqb-true (length cs) 16 (and_left (eqb (length cs) 16) (is_framed cs) yes.0) in
    let value : c.from_be_bytes.result ≡ word_at bs 3 4 5 6 = search rules in
    rw value (sym (bytes-read cs bs sized (and_right (eqb (length cs) 16) (is_framed cs) yes.0) yes.1))
