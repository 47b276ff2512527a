-- What is claimed of the bytes that are left: a refusal, with any number above 0, has written nothing. Proofs: proofs/Kept.antt.
-- Assumes nothing.
use Rattle.std.specs.Prelude.{ℕ, ◌≤◌, ◌≡◌, List}
use Rattle.machine.specs.Lent.{Slices}
use Rattle.questions.specs.Asked.{why_of_image, why_of_slices}

abbrev pub ImageWhyKept : Type 0
ImageWhyKept =
    (image call : List ℕ) (slot : ℕ) (reason : List ℕ) →
    let left = why_of_image image call slot reason in 1 ≤ left.given → left.reason ≡ reason

abbrev pub SlicesWhyKept : Type 0
SlicesWhyKept =
    (s : Slices) (call : List ℕ) (slot : ℕ) (reason : List ℕ) →
    let left = why_of_slices s call slot reason in 1 ≤ left.given → left.reason ≡ reason
