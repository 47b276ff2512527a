-- `planning::write_plan` meets its contract: three bytes and a number, stored one after the other, fill the plan.
-- Assumes nothing.
use mathlib.Core.Path.{◌≡◌, refl}
use mir.Syntax.{w32}
use mir.Val.{to_z, of_z}
use Rattle.seq.proofs.Stores.{stored_one, stored-then, stored-whole}
use Rattle.words.specs.Words.{flag_byte}
use Rattle.planning.specs.Planned.{slice_byte}
use borrow.Author.Rules.{rules}
use Rattle.planning.proofs.write_plan.Goals as goal

pub returns : goal.returns
returns c =
    let picture = c.args.picture in
    let e : to_z w32 (of_z w32 picture.poc_val.0) ≡ picture.poc_val.0 = search rules in
    stored-whole
    (stored-then
    (stored-then
    (stored-then
    (stored_one (slice_byte picture.slice_type) c.slice_byte.ensures)
    (stored_one picture.slice_depth refl))
    (stored_one (flag_byte picture.slice_ref_flag) c.flag_byte.ensures))
    (rw e at c.write_signed.ensures))
    c.requires
