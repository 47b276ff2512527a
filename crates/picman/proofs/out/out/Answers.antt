use Rattle.std.proofs.lemmas.Result.{err_from_is_err_and}
use Rattle.picman.proofs.OutOnKeys.{found-fits, on-found, on-waits, on-ends}
use Rattle.picman.proofs.out.out.Goals as goal

pub returns-in_err-pos : goal.returns-in_err-pos
returns-in_err-pos c = λ rows long.
    let f = err_from_is_err_and c.from_residual.result c.from_residual.ensures.1 in
    rw f.1 (on-ends c.args.keys.now c.args.rest.now c.requires.0 rows long c.in_err-pos.field-0.0 c.in_err-pos.ensures)

pub returns-in_default : goal.returns-in_default
returns-in_default c = λ rows long.
    on-waits c.args.keys.now c.args.rest.now c.requires.0 rows long (rw c.in_default.is at c.in_ok-pos.ensures)

pub hand_over-requires-clause-fits : goal.hand_over-requires-clause-fits
hand_over-requires-clause-fits c =
    found-fits c.args.keys.now c.args.rest.now c.requires.0 c.requires.1 c.in-Some.pos (rw c.in-Some.is at c.in_ok-pos.ensures)

pub returns : goal.returns
returns c = λ rows long.
    let h = c.hand_over.ensures in
    rw (h.shows, h.goes_on, h.cleared)
    (on-found c.args.keys.now c.args.rest.now c.requires.0 rows long c.in-Some.pos (rw c.in-Some.is at c.in_ok-pos.ensures))
