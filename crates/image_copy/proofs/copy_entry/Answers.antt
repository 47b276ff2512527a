-- `image_copy::copy_entry` meets its contract: the callees' contracts, last call first.
-- Assumes nothing.
use Rattle.std.proofs.Common.{Result, Ok, Err}
use mathlib.Core.Path.{◌≡◌, refl}
use Rattle.def.specs.declared.Refusal.{Refusal}
use Rattle.refp.specs.Answers.{copy_answer}
use Rattle.refp.specs.Copy.{copy}
use Rattle.statuses.specs.Statuses.{status}
use Rattle.image_copy.specs.Copied.{copy_into, status_of}
use Rattle.image_copy.proofs.copy_entry.Goals as goal

-- a copy's status is the one that its answer shows
status-shown : (done : Result (Unit {0}) Refusal) → status done ≡ status_of (copy_answer done)
status-shown (Ok done) = refl
status-shown (Err why) = refl

pub returns : goal.returns
returns c =
    let a = c.args in
    let m = c.read_machine-machine.ensures in
    let came = c.check_copy_refp-done.ensures in
    let wanted : copy c.read_machine-machine.result.refp a.cnt a.lidx c.read-src.result ≡ copy_into a.image.now a.cnt a.lidx a.entry.now =
    rw (c.read-src.ensures, m) in
    record {
      given = rw (status-shown c.check_copy_refp-done.result, came.answers, c.write_machine.ensures.bytes, came.lists_are, wanted, m);
      holds = rw (came.lists_are, wanted, m) at c.write_machine.ensures.holds;
    }
