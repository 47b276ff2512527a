use Rattle.std.proofs.Common.{◌∙◌, sym}
use Rattle.picman.proofs.GetOnKeys.{on-leased, found-occupied, found-number, on-found, on-full, free-below, on-new}
use Rattle.picman.proofs.get.get.Goals as goal

pub returns-then-is_present : goal.returns-then-is_present
returns-then-is_present c =
    let a = c.args in
    on-leased a.keys.now a.rows.now a.rest.now c.requires.0 c.requires.1 (sym c.is_present.ensures ∙ c.if-is_present.true)

pub reuse_pic-requires-clause-occupied : goal.reuse_pic-requires-clause-occupied
reuse_pic-requires-clause-occupied c =
    let a = c.args in
    found-occupied a.keys.now a.rows.now a.rest.now c.requires.0 c.requires.1 (sym c.is_present.ensures ∙ c.if-is_present.false) c.in-Some.pos (sym c.in-Some.ensures)

pub reuse_pic-requires-clause-fits : goal.reuse_pic-requires-clause-fits
reuse_pic-requires-clause-fits c =
    let a = c.args in
    found-number a.keys.now a.rows.now a.rest.now c.requires.0 c.requires.1 (sym c.is_present.ensures ∙ c.if-is_present.false) c.in-Some.pos (sym c.in-Some.ensures)

pub returns-in-Some : goal.returns-in-Some
returns-in-Some c =
    let a = c.args in
    let r = c.reuse_pic.ensures in
    rw (r.shows, r.leased, r.left)
    (on-found a.keys.now a.rows.now a.rest.now c.requires.0 c.requires.1 (sym c.is_present.ensures ∙ c.if-is_present.false) c.in-Some.pos (sym c.in-Some.ensures))

pub returns-then-rest : goal.returns-then-rest
returns-then-rest c =
    let a = c.args in
    on-full a.keys.now a.rows.now a.rest.now c.requires.0 c.requires.1 (sym c.is_present.ensures ∙ c.if-is_present.false) (sym c.in_default.ensures) c.if-rest.true

pub lease_new_pic-requires : goal.lease_new_pic-requires
lease_new_pic-requires c =
    let a = c.args in (
      c.requires.0,
      free-below a.keys.now a.rows.now a.rest.now c.requires.0 c.requires.1 (sym c.is_present.ensures ∙ c.if-is_present.false) (sym c.in_default.ensures) c.if-rest.false,
    )

pub returns : goal.returns
returns c =
    let a = c.args in
    let r = c.lease_new_pic.ensures in
    rw (r.shows, r.leased, r.cleared)
    (on-new a.keys.now a.rows.now a.rest.now c.requires.0 c.requires.1 (sym c.is_present.ensures ∙ c.if-is_present.false) (sym c.in_default.ensures) c.if-rest.false)
