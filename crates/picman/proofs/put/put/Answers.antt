use Rattle.std.proofs.Common.{◌≡◌, ◌∙◌, sym}
use Rattle.std.proofs.lemmas.Result.{err_from_is_err_and}
use Rattle.keys.specs.Keys.{stands}
use Rattle.picman.proofs.PutOnKeys.{on-nothing, on-high, on-unleased, on-marked, not-marked, marked-whole}
use Rattle.picman.proofs.put.put.Goals as goal

pub returns-then-not-call : goal.returns-then-not-call
returns-then-not-call c =
    let a = c.args in
    on-nothing a.keys.now a.rows.now a.rest.now a.call c.requires.0 _ _ c.if-not-call.true (c.put_nothing.ensures a.rows.now c.requires.0.rows_long)

pub returns-then-call-gt-MAX_POC : goal.returns-then-call-gt-MAX_POC
returns-then-call-gt-MAX_POC c =
    let a = c.args in
    on-high a.keys.now a.rows.now a.rest.now a.call c.requires.0 c.if-not-call.false c.if-call-gt-MAX_POC.true

pub returns-then-not-is_present : goal.returns-then-not-is_present
returns-then-not-is_present c =
    let a = c.args in
    on-unleased a.keys.now a.rows.now a.rest.now a.call c.requires.0 c.if-not-call.false c.if-call-gt-MAX_POC.false
    (sym c.is_present.ensures ∙ c.if-not-is_present.true)

pub returns-in_err-place_unmarked : goal.returns-in_err-place_unmarked
returns-in_err-place_unmarked c =
    let a = c.args in
    let pm = stands a.keys.now a.rows.now a.rest.now in
    let f = err_from_is_err_and c.from_residual.result c.from_residual.ensures.1 in
    let same : f.0 ≡ c.in_err-place_unmarked.field-0.0 = f.2 in
    rw (f.1, same)
    (on-marked a.keys.now a.rows.now a.rest.now a.call c.requires.0 c.if-not-call.false c.if-call-gt-MAX_POC.false _ pm _ _ _
    (sym c.is_present.ensures ∙ c.if-not-is_present.false)
    (sym (not-marked a.call pm (sym c.marks_anew.ensures ∙ c.if-not-marks_anew.true)))
    c.in_err-place_unmarked.ensures)

pub returns-then-not-marks_anew : goal.returns-then-not-marks_anew
returns-then-not-marks_anew c =
    let a = c.args in
    let pm = stands a.keys.now a.rows.now a.rest.now in
    on-marked a.keys.now a.rows.now a.rest.now a.call c.requires.0 c.if-not-call.false c.if-call-gt-MAX_POC.false _ pm _ _ _
    (sym c.is_present.ensures ∙ c.if-not-is_present.false)
    (sym (not-marked a.call pm (sym c.marks_anew.ensures ∙ c.if-not-marks_anew.true)))
    c.in_ok-place_unmarked.ensures

pub place_marked-requires : goal.place_marked-requires
place_marked-requires c =
    let a = c.args in
    let m = c.remark-count.ensures in
    (c.requires.0, marked-whole a.call a.keys.now a.rows.now _ a.rest.now _ c.requires.0 c.requires.1 m, sym c.is_present.ensures ∙ c.if-not-is_present.false)

pub returns-in_err-place_marked : goal.returns-in_err-place_marked
returns-in_err-place_marked c =
    let a = c.args in
    let f = err_from_is_err_and c.from_residual-in_err-place_marked.result c.from_residual-in_err-place_marked.ensures.1 in
    let same : f.0 ≡ c.in_err-place_marked.field-0.0 = f.2 in
    rw (f.1, same)
    (on-marked a.keys.now a.rows.now a.rest.now a.call c.requires.0 c.if-not-call.false c.if-call-gt-MAX_POC.false _ _ _ _ _
    (sym c.is_present.ensures ∙ c.if-not-is_present.false)
    (c.remark-count.ensures.remarks a.rows.now a.rest.now)
    c.in_err-place_marked.ensures)

pub returns : goal.returns
returns c =
    let a = c.args in
    on-marked a.keys.now a.rows.now a.rest.now a.call c.requires.0 c.if-not-call.false c.if-call-gt-MAX_POC.false _ _ _ _ _
    (sym c.is_present.ensures ∙ c.if-not-is_present.false)
    (c.remark-count.ensures.remarks a.rows.now a.rest.now)
    c.in_ok-place_marked.ensures
