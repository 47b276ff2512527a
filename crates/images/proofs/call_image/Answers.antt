-- `images::call_image` meets its contract: each way out knows which test failed, or what the bytes of the call are.
-- Assumes nothing.
use Rattle.std.specs.Prelude.{Option}
use mathlib.Core.Path.{◌≡◌, refl, sym, subst, ◌∙◌}
use mathlib.Core.Bool.{true, true≢false}
use mathlib.Core.List.{List}
use Prim.Native.Nat.{ℕ}
use native.Mathlib.Omega.{arith}
use lib.ListN.{length}
use borrow.Author.Tests.{eq-eqb, ne_eqb}
use Rattle.line.specs.declared.Call.{Call}
use Rattle.line.specs.Calls.{call_from}
use Rattle.image.specs.Image.{Bytes, is_image}
use Rattle.machine.specs.declared.Machine.{Machine}
use Rattle.machine.specs.Step.{step_line}
use Rattle.wire.specs.Wire.{answer_length}
use Rattle.exchange.specs.Lent.{machine_of, ImageHolds}
use Rattle.images.specs.Called.{answered, answer_to, called, Answers}
use Rattle.image.proofs.BytesKept.{image-long}
use Rattle.images.proofs.TurnedDown.{answered-kept, call_kept}
use Rattle.images.proofs.call_image.Goals as goal

-- where both tests are passed
called-line : (image call answer : List ℕ) (l : Option Call) → is_image image ≡ true → length answer ≡ answer_length → call_from call ≡ l
    → called image call answer ≡ answer_to image l
unfolding called
called-line image call answer l e f g = rw (e, eq-eqb (length answer) answer_length f, g)

-- what the image holds, by what the call is
holds-line : (m : Machine) (call : List ℕ) {bs : List ℕ} {l : Option Call} → call_from call ≡ l
    → ImageHolds bs (step_line m l).machine → ImageHolds bs (step_line m (call_from call)).machine
holds-line m call {bs} e h = subst (λ (k : Option Call). ImageHolds bs (step_line m k).machine) (sym e) h

answers : {r : ℕ} {image call answer image' answer' : List ℕ} → Bytes image → answered r image' answer' ≡ called image call answer
    → (is_image image ≡ true → length answer ≡ answer_length → ImageHolds image' (step_line (machine_of image) (call_from call)).machine)
    → Answers r image call answer image' answer'
answers {image = image} {call} {answer} bytes e h = record { given = e; holds = h; kept = answered-kept e (call_kept image bytes call answer) }

pub returns-then-not-is_image : goal.returns-then-not-is_image
unfolding called
returns-then-not-is_image c =
    let e = sym c.is_image.ensures ∙ c.if-not-is_image.true in
    answers (record { each = λ i. omega (arith, c.slice_known-1.given i) }) (rw e) (λ f _. absurd (true≢false (sym f ∙ e)))

pub returns-then-answer-ne-ANSWER_LENGTH : goal.returns-then-answer-ne-ANSWER_LENGTH
unfolding called
returns-then-answer-ne-ANSWER_LENGTH c =
    let short = ne_eqb (length c.args.answer.now) answer_length c.if-answer-ne-ANSWER_LENGTH.true in
    answers (record { each = λ i. omega (arith, c.slice_known-1.given i) }) (rw ((sym c.is_image.ensures ∙ c.if-not-is_image.false), short)) (λ _ f. absurd (c.if-answer-ne-ANSWER_LENGTH.true f))

pub answer_good-requires : goal.answer_good-requires
answer_good-requires c =
    (image-long _ (sym c.is_image.ensures ∙ c.if-not-is_image.false), c.if-answer-ne-ANSWER_LENGTH.false)

pub returns-in-Some : goal.returns-in-Some
unfolding step_line
returns-in-Some c =
    let e = sym c.read_call.ensures ∙ c.in-Some.is in
    answers (record { each = λ i. omega (arith, c.slice_known-1.given i) })
    (c.answer_good.ensures.given ∙ sym (called-line _ _ _ _ (sym c.is_image.ensures ∙ c.if-not-is_image.false) c.if-answer-ne-ANSWER_LENGTH.false e))
    (λ _ _. holds-line _ _ e c.answer_good.ensures.holds)

pub returns-in-None : goal.returns-in-None
unfolding step_line
returns-in-None c =
    let e = sym c.read_call.ensures ∙ c.in-None.is in
    answers (record { each = λ i. omega (arith, c.slice_known-1.given i) })
    (rw (c.answer_bad.ensures.0, c.answer_bad.ensures.1) (sym (called-line _ _ _ _ (sym c.is_image.ensures ∙ c.if-not-is_image.false) c.if-answer-ne-ANSWER_LENGTH.false e)))
    (λ f _. holds-line _ _ e (record { image = f; machine = refl }))
