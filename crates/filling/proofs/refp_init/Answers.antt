-- `filling::refp_init` meets its contract: the two early answers, what is decided on the keys, and the entries stored in place. Assumes nothing.
use mathlib.Core.Path.{◌≡◌, sym, ◌∙◌}
use Rattle.std.proofs.Common.{rules, Err}
use Rattle.filling.proofs.Settling.{forward-room, backward-room}
use Rattle.filling.proofs.Coming.{too-high-came, slice-i-came, turned-down-came, listed-came}
use Rattle.filling.proofs.refp_init.Goals as goal

pub returns-then-call-gt-MAX_POC : goal.returns-then-call-gt-MAX_POC
returns-then-call-gt-MAX_POC c =
    too-high-came c.args.keys.now c.args.rows.now c.args.rest.now c.args.call c.requires.sized c.if-call-gt-MAX_POC.true

pub returns-then-is_i : goal.returns-then-is_i
returns-then-is_i c =
    slice-i-came c.args.keys.now c.args.rows.now c.args.rest.now c.args.call c.requires.sized c.if-call-gt-MAX_POC.false
    (sym c.is_i.ensures ∙ c.if-is_i.true)

pub returns-in_err-refp_choose : goal.returns-in_err-refp_choose
returns-in_err-refp_choose c =
    let is : c.from_residual.result ≡ Err c.in_err-refp_choose.field-0.0 = search rules in
    rw is
    (turned-down-came c.args.keys.now c.args.rows.now c.args.rest.now c.args.call c.requires.sized c.if-call-gt-MAX_POC.false
    (sym c.is_i.ensures ∙ c.if-is_i.false) c.in_err-refp_choose.field-0.0 (c.in_err-refp_choose.ensures c.args.rows.now))

pub write_entries-requires : goal.write_entries-requires
write_entries-requires c =
    let a = c.args in
    forward-room a.keys.now a.rows.now a.rest.now c.requires.sized c.requires.is_whole a.call c.deref.result.now c.refp_choose.new.lists.backward.items
    (rw c.deref.ensures.0 (sym (c.in_ok-refp_choose.ensures a.rows.now))) c.drop_entries.new.rows
    (record { slots_long = c.requires.sized.slots_long; rows_long = c.drop_entries.ensures.rows_long }) c.deref.ensures.1

pub write_entries-requires-2 : goal.write_entries-requires-2
write_entries-requires-2 c =
    let a = c.args in
    backward-room a.keys.now a.rows.now a.rest.now c.requires.sized c.requires.is_whole a.call c.deref.result.now c.deref-2.result.now
    (rw (c.deref.ensures.0, c.deref-2.ensures.0) (sym (c.in_ok-refp_choose.ensures a.rows.now))) c.write_entries.new.rows
    (record { slots_long = c.requires.sized.slots_long; rows_long = c.write_entries.ensures.rows_long }) c.deref-2.ensures.1

pub returns : goal.returns
returns c =
    let a = c.args in
    listed-came a.keys.now a.rows.now a.rest.now a.call c.requires.sized c.if-call-gt-MAX_POC.false (sym c.is_i.ensures ∙ c.if-is_i.false)
    c.requires.is_whole c.deref.result.now c.deref-2.result.now (rw (c.deref.ensures.0, c.deref-2.ensures.0) (c.in_ok-refp_choose.ensures a.rows.now))
    _ _ _ c.deref.ensures.1 c.deref-2.ensures.1 c.drop_entries.ensures c.write_entries.ensures c.write_entries-2.ensures _ _
    (rw c.deref.ensures.0 c.len-forward.ensures.value) (rw c.deref-2.ensures.0 c.len-backward.ensures.value)
