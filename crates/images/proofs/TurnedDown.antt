-- A function that turns its call down leaves the image as it was: of the definitions, and so of what stands in the image.
-- Assumes nothing.
use Rattle.std.specs.Prelude.{Option, Some, None}
use mathlib.Core.Path.{◌≡◌, refl, ap, subst, ◌∙◌}
use mathlib.Core.Bool.{Bool, true, false, cond, ◌&&◌}
use mathlib.Core.List.{List}
use Prim.Native.Nat.{ℕ}
use native.Mathlib.Omega.{arith}
use lib.Dec.{eqb}
use lib.ListN.{length}
use Rattle.def.specs.Refusals.{NumberInUse}
use Rattle.seq.proofs.Tests.{and_left}
use Rattle.line.specs.declared.Call.{Call}
use Rattle.line.specs.Calls.{call_from}
use Rattle.image.specs.Image.{image_length, Bytes, is_image}
use Rattle.image.proofs.BytesKept.{bytes-kept}
use Rattle.machine.specs.Step.{new_machine}
use Rattle.machine.proofs.EveryCall.{call-unchanged}
use Rattle.exchange.specs.Lent.{bad_line, left, machine_of, machine_bytes}
use Rattle.wire.specs.Wire.{answer_length}
use Rattle.images.specs.Called.{Answered, answered, answer_to, renewed, called}

-- from what a definition leaves to what the buffers hold
pub answered-kept : {r : ℕ} {image image' answer' : List ℕ} {x : Answered} → answered r image' answer' ≡ x
    → (NumberInUse x.given → x.image ≡ image) → NumberInUse r → image' ≡ image
answered-kept e f t = ap (λ (y : Answered). y.image) e ∙ f (subst NumberInUse (ap (λ (y : Answered). y.given) e) t)

pub new-kept : (image : List ℕ) → NumberInUse (renewed image).given → (renewed image).image ≡ image
unfolding renewed
new-kept image t = go (eqb (length image) image_length) t
  where
    go : (b : Bool) → let x = cond b (left 0 (machine_bytes new_machine)) (left bad_line image) in NumberInUse x.given → x.image ≡ image
    go true u = absurd (omega (arith, u.0))
    go false u = refl

module _ (image : List ℕ) (bytes : Bytes image) where
  line_kept : is_image image ≡ true → (l : Option Call) → NumberInUse (answer_to image l).given → (answer_to image l).image ≡ image
  line_kept e (Some c) t = ap machine_bytes (call-unchanged (machine_of image) c t) ∙ bytes-kept image bytes e
  line_kept e None t = refl

  pub call_kept : (call answer : List ℕ) → NumberInUse (called image call answer).given → (called image call answer).image ≡ image
  unfolding called
  call_kept call answer t = go (is_image image && long) refl t
    where
      long : Bool
      long = eqb (length answer) answer_length

      result : Bool → Answered
      result b = cond b (answer_to image (call_from call)) (answered bad_line image answer)

      go : (b : Bool) → (is_image image && long) ≡ b → NumberInUse (result b).given → (result b).image ≡ image
      go true e u = line_kept (and_left (is_image image) long e) (call_from call) u
      go false e u = refl
