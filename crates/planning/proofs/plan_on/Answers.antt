-- `planning::plan_on` meets its contract: whichever test turns the call down, and what is written where none does.
-- Assumes nothing.
use Prim.Native.Nat.{ℕ, ◌≤◌}
use mathlib.Core.Path.{◌≡◌, sym, ◌∙◌}
use mathlib.Core.List.{List}
use lib.Dec.{eqb}
use lib.ListN.{length}
use borrow.Author.Tests.{eq-eqb, ne_eqb, le-leb, lt-leb}
use Rattle.std.specs.Prelude.{Ok}
use Rattle.seq.proofs.Stores.{stored-whole}
use Rattle.def.specs.declared.EvcPoc.{EvcPoc}
use Rattle.gop.specs.declared.PicturePlan.{PicturePlan}
use Rattle.gop.specs.Plan.{Planning, plan}
use Rattle.words.specs.Words.{poc_width, poc_bytes, poc_at}
use Rattle.planning.specs.Planned.{plan_left, plan_width, plan_bytes, shown_planning, plan_called}
use Rattle.planning.proofs.plan_on.Goals as goal
use Rattle.planning.proofs.plan_on.Goals.{then-poc-ne-RECORD_LENGTH-via-then-poc-ne-RECORD_LENGTH as record_size}
use Rattle.planning.proofs.plan_on.Goals.{then-poc-ne-RECORD_LENGTH-via-else-poc-ne-RECORD_LENGTH+then-plan-ne-PLAN_LENGTH as plan_size}
use Rattle.planning.proofs.plan_on.Goals.{then-poc-ne-RECORD_LENGTH-via-else-poc-ne-RECORD_LENGTH+else-plan-ne-PLAN_LENGTH+then-hierarchy-gt1 as no_flag}

-- where every test passes
called : (count length' interval inter hierarchy : ℕ) (bs ps : List ℕ) (r : EvcPoc) → length bs ≡ poc_width → length ps ≡ plan_width → hierarchy ≤ 1
    → r ≡ poc_at bs 0
    → plan_called count length' interval inter hierarchy bs ps ≡ shown_planning (plan count length' interval inter (eqb hierarchy 1) r) bs ps
unfolding plan_called
called count length' interval inter hierarchy bs ps r record_fits plan_fits flag read =
    rw (eq-eqb (length bs) poc_width record_fits, eq-eqb (length ps) plan_width plan_fits, le-leb hierarchy 1 flag, read)

-- where a plan is made
shown : (x : Planning) (p : PicturePlan) (r : EvcPoc) (bs ps : List ℕ) → Ok p ≡ x.answer → r ≡ x.poc
    → plan_left 0 (poc_bytes r) (plan_bytes p) ≡ shown_planning x bs ps
shown x p r bs ps e f = rw (f, sym e)

pub returns-then-poc-ne-RECORD_LENGTH : goal.returns-then-poc-ne-RECORD_LENGTH
unfolding plan_called
returns-then-poc-ne-RECORD_LENGTH c =
    let bs = c.args.poc.now in
    let ps = c.args.plan.now in
    elim c.then-poc-ne-RECORD_LENGTH.branch [
      | record_size w ↦ rw (ne_eqb (length bs) poc_width w.if-poc-ne-RECORD_LENGTH.true)
      | plan_size w ↦ rw (eq-eqb (length bs) poc_width w.if-poc-ne-RECORD_LENGTH.false, ne_eqb (length ps) plan_width w.if-plan-ne-PLAN_LENGTH.true)
      | no_flag w ↦ rw (
        eq-eqb (length bs) poc_width w.if-poc-ne-RECORD_LENGTH.false,
        eq-eqb (length ps) plan_width w.if-plan-ne-PLAN_LENGTH.false,
        lt-leb c.args.hierarchy 1 w.if-hierarchy-gt1.true,
      )
    ]

pub returns : goal.returns
returns c =
    let a = c.args in
    let bs = a.poc.now in
    let ps = a.plan.now in
    let r = c.read_poc_at-record.result in
    rw (c.write_plan.ensures, stored-whole c.write_poc_at.ensures c.if-poc-ne-RECORD_LENGTH.false)
    (shown (plan a.count a.gop_size a.interval a.inter (eqb a.hierarchy 1) r) c.in_ok-picture.picture c.decide_normal_gop.new.poc bs ps
    c.in_ok-picture.ensures.answer c.in_ok-picture.ensures.left
    ∙ sym
    (called a.count a.gop_size a.interval a.inter a.hierarchy bs ps r c.if-poc-ne-RECORD_LENGTH.false c.if-plan-ne-PLAN_LENGTH.false
    c.if-hierarchy-gt1.false c.read_poc_at-record.ensures))
