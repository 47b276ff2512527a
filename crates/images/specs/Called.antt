-- `renew_image` and `call_image`: what they give, and the buffers as they leave them.
-- Assumes nothing.
use Rattle.std.specs.Prelude.{ℕ, ◌≡◌, true, cond, ◌&&◌, List, eqb, length, Option, Some, None}
use Rattle.def.specs.Refusals.{NumberInUse}
use Rattle.line.specs.declared.Call.{Call}
use Rattle.line.specs.Calls.{call_from}
use Rattle.line.specs.Answers.{bad_line_reply}
use Rattle.image.specs.Image.{image_length, image_bytes, pm_of, refp_of, poc_of, is_image}
use Rattle.machine.specs.declared.Stepped.{Stepped}
use Rattle.machine.specs.Step.{new_machine, step, step_line}
use Rattle.wire.specs.Wire.{answer_length, answer_bytes}
use Rattle.exchange.specs.Lent.{bad_line, Left, left, machine_of, machine_bytes, ImageHolds}

-- `renew_image`: the new machine, whatever the bytes were. Another length is 18, and nothing is written.
unfoldable pub renewed : List ℕ → Left
unfolding image_bytes
renewed image = cond (eqb (length image) image_length) (left 0 (machine_bytes new_machine)) (left bad_line image)

-- What holds of it, with the image that came and the one that is left.
pub record Renews (r : ℕ) (image image' : List ℕ) : Type 0 where
  pub given : left r image' ≡ renewed image
  pub holds : length image ≡ image_length → ImageHolds image' new_machine
  pub kept : NumberInUse r → image' ≡ image

-- What a function gives, and what stands in the lent buffers, where one for an answer is lent too.
pub record Answered : Type 0 where
  pub given : ℕ
  pub image : List ℕ
  pub answer : List ℕ

abbrev pub answered : ℕ → List ℕ → List ℕ → Answered
answered n image answer = record { given = n; image = image; answer = answer }

-- A good call: the status, the new machine's image and the answer. A bad one leaves the image and answers as a bad line does.
abbrev pub replied : Stepped → Answered
replied s = answered s.reply.status (machine_bytes s.machine) (answer_bytes s.reply)

abbrev pub answer_to : List ℕ → Option Call → Answered
answer_to image (Some c) = replied (step (machine_of image) c)
answer_to image None = answered bad_line image (answer_bytes bad_line_reply)

-- `call_image`: 18, and nothing is written, unless image and answer buffer are what they must be.
unfoldable pub called : List ℕ → List ℕ → List ℕ → Answered
unfolding image_bytes pm_of refp_of poc_of is_image call_from step
called image call answer =
    cond (is_image image && eqb (length answer) answer_length) (answer_to image (call_from call))
    (answered bad_line image answer)

-- What holds of it, with the buffers that came and as they are left.
pub record Answers (r : ℕ) (image call answer image' answer' : List ℕ) : Type 0 where
  pub given : answered r image' answer' ≡ called image call answer
  pub holds : is_image image ≡ true → length answer ≡ answer_length → ImageHolds image' (step_line (machine_of image) (call_from call)).machine
  pub kept : NumberInUse r → image' ≡ image
