-- `parsing::read_sized` meets its contract. Assumes nothing.
use Rattle.std.proofs.Common.{◌≡◌, true, ◌&&◌, eqb, length, ◌*◌, rules, sym, ap, ◌∙◌, eq-eqb}
use Rattle.seq.proofs.Tests.{and_right}
use Rattle.hex_digits.proofs.Tested.{test-failed, test-passed}
use Rattle.hex_digits.specs.Frame.{is_framed}
use Rattle.line.specs.Calls.{call_from}
use Rattle.line.proofs.Reading.{not-framed, framed-bytes}
use Rattle.parsing.proofs.read_sized.Goals as goal

pub returns-in_err-bytes : goal.returns-in_err-bytes
returns-in_err-bytes g c =
    let cs = c.args.digits.now in
    let no = test-failed (eqb (length cs) (2 * g.row.N) && is_framed cs) _ (sym c.read_framed_array.ensures ∙ c.in_err-bytes.was) in
    let sized : eqb (length cs) (2 * g.row.N) ≡ true = eq-eqb (length cs) (2 * g.row.N) c.requires in
    let bad = not-framed cs (rw sized at no) in
    rw bad (search rules)

pub returns : goal.returns
returns g c =
    let cs = c.args.digits.now in
    let yes = test-passed (eqb (length cs) (2 * g.row.N) && is_framed cs) _ _ (sym c.read_framed_array.ensures ∙ c.in_ok-bytes.was) in
    c.read_call.ensures ∙ ap call_from yes.1 ∙ sym (framed-bytes cs (and_right (eqb (length cs) (2 * g.row.N)) (is_framed cs) yes.0))
