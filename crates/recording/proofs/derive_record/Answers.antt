-- `recording::derive_record` meets its contract: the record is read, a number derived, and the record after it written where there is one.
-- Assumes nothing.
use Rattle.std.specs.Result.{is_ok}
use mathlib.Core.Path.{refl, sym, ap, ◌∙◌}
use Rattle.machine.specs.Step.{derived_reply}
use Rattle.recording.proofs.Deriving.{leaves-refused, leaves-made}
use Rattle.recording.proofs.derive_record.Goals.{then-is_ok, else-is_ok}
use Rattle.recording.proofs.derive_record.Goals as goal

pub returns : goal.returns
returns c =
    let derived = c.evc_poc_derivation-answer.ensures in
    let replied = c.derived_reply.ensures ∙ ap (derived_reply 6) derived.answer in
    let told = sym (ap is_ok derived.answer) ∙ sym c.is_ok.ensures.value in
    elim c.if-is_ok.branch [
      | then-is_ok w ↦
          rw w.registers-is
          (leaves-made _ _ _ c.poc_of-poc.ensures refl replied (told ∙ w.if-is_ok.true) (rw derived.left at w.write_record.ensures))
      | else-is_ok w ↦
          rw w.registers-is (leaves-refused _ _ _ c.poc_of-poc.ensures refl replied (told ∙ w.if-is_ok.false))
    ]
