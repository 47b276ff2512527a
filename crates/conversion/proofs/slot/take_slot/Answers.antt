-- by whether the slot keeps its own rules, and whether a picture is there. Assumes nothing.
use mathlib.Core.Path.{sym, ◌∙◌}
use native.Mathlib.Omega.{arith}
use Rattle.conversion.proofs.KeyedLaws.{key-stray, key-none, key-held, rows-kept, rows_none, rows-held, buffer_below}
use borrow.Author.Rules.{rules}
use borrow.Author.Tests.{not-true, not-false}
use Rattle.conversion.proofs.slot.take_slot.Goals as goal

pub returns-then-not-slot_fits : goal.returns-then-not-slot_fits
returns-then-not-slot_fits c =
    let s = c.args.s in
    let e = sym c.slot_fits.ensures ∙ c.if-not-slot_fits.true in
    record { key_is = sym (key-stray s e); rows_are = sym (rows-kept s e _); shaped = record { row_long = search rules; layer_low = search rules } }

pub returns-then-not-s : goal.returns-then-not-s
returns-then-not-s c =
    let s = c.args.s in
    let e = sym c.slot_fits.ensures ∙ c.if-not-slot_fits.false in
    let p = not-true _ c.if-not-s.true in
    record { key_is = sym (key-none s e p); rows_are = sym (rows_none s e p _); shaped = record { row_long = search rules; layer_low = search rules } }

pub write_row-requires : goal.write_row-requires
write_row-requires c =
    let s = c.args.s in
    let b = buffer_below s (sym c.slot_fits.ensures ∙ c.if-not-slot_fits.false) (not-false _ c.if-not-s.false) in
    (search rules, omega arith)

pub key_of-requires : goal.key_of-requires
key_of-requires c =
    let s = c.args.s in
    let b = buffer_below s (sym c.slot_fits.ensures ∙ c.if-not-slot_fits.false) (not-false _ c.if-not-s.false) in
    omega arith

pub returns : goal.returns
returns c =
    let s = c.args.s in
    let e = sym c.slot_fits.ensures ∙ c.if-not-slot_fits.false in
    let p = not-false _ c.if-not-s.false in
    record {
      key_is = c.key_of.ensures ∙ sym (key-held s e p);
      rows_are = c.write_row.ensures ∙ sym (rows-held s e p _);
      shaped = record { row_long = search rules; layer_low = search rules };
    }
