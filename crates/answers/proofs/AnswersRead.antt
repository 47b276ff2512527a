-- Which lines are answers: those of sixteen digits that are framed.
-- Assumes nothing.
use Rattle.std.specs.Prelude.{Some, None}
use Rattle.std.proofs.lemmas.List.{get_or-take}
use Prim.Native.Nat.{ℕ, ◌-◌, ◌%◌, ◌<◌}
use native.Mathlib.Omega.{arith}
use mathlib.Core.Path.{◌≡◌, refl, sym, ap, ◌∙◌}
use mathlib.Core.Bool.{Bool, true, false}
use mathlib.Core.List.{List}
use lib.Dec.{eqb}
use lib.ListN.{length}
use borrow.Author.Tests.{ne_eqb, eq-eqb, eqb-true}
use Rattle.seq.specs.Lists.{all_of}
use Rattle.seq.proofs.Tests.{and_left, and_right}
use Rattle.hex_digits.specs.Hex.{is_digit, is_hex, bytes_of}
use Rattle.hex_digits.specs.Frame.{byte_at, word_at, body_of, is_checked, is_framed, from_line}
use Rattle.hex_digits.proofs.HexLaws.{bytes-length, body-length}
use Rattle.framing.proofs.Framed.{unframed, of-body}
use Rattle.line.specs.Answers.{reply, answer_kind}

module _ (cs : List ℕ) where
  pub other_length : (length cs ≡ 16 → ⊥) → from_line answer_kind cs ≡ None
  unfolding answer_kind
  other_length h = by (is_framed cs) refl
    where
      by : (b : Bool) → is_framed cs ≡ b → from_line answer_kind cs ≡ None
      by false e = unframed answer_kind cs e
      by true e =
          let even = eqb-true (length cs % 2) 0 (and_right (all_of is_digit cs) (eqb (length cs % 2) 0) (and_left (is_hex cs) (is_checked (bytes_of cs)) e)) in
          let other : length (body_of (bytes_of cs)) ≡ 7 → ⊥ = λ f. h (omega (arith, bytes-length cs, body-length (bytes_of cs))) in
          of-body answer_kind cs e ∙ rw (ne_eqb (length (body_of (bytes_of cs))) 7 other)

  pub an-answer : length cs ≡ 16 → is_framed cs ≡ true →
      let b = body_of (bytes_of cs) in
      from_line answer_kind cs ≡ Some (reply (byte_at b 0) (byte_at b 1) (byte_at b 2) (word_at b 3 4 5 6))
  unfolding answer_kind
  an-answer n e =
      let seven : length (body_of (bytes_of cs)) ≡ 7 = omega (arith, bytes-length cs, body-length (bytes_of cs)) in
      of-body answer_kind cs e ∙ rw (eq-eqb (length (body_of (bytes_of cs))) 7 seven)

  body-entry : (bs : List ℕ) → length cs ≡ 16 → bs ≡ bytes_of cs → (k : ℕ) → k < 7 → byte_at (body_of (bytes_of cs)) k ≡ byte_at bs k
  unfolding body_of
  body-entry bs n is k h =
      get_or-take (length (bytes_of cs) - 1) (bytes_of cs) k 0 (omega (arith, bytes-length cs))
      ∙ ap (λ (b : List ℕ). byte_at b k) (sym is)

  -- The same of its bytes, check byte among them.
  pub bytes-read : (bs : List ℕ) → length cs ≡ 16 → is_framed cs ≡ true → bs ≡ bytes_of cs
      → from_line answer_kind cs ≡ Some (reply (byte_at bs 0) (byte_at bs 1) (byte_at bs 2) (word_at bs 3 4 5 6))
  bytes-read bs n e is =
      an-answer n e
      ∙ rw (
        body-entry bs n is 0 (omega arith),
        body-entry bs n is 1 (omega arith),
        body-entry bs n is 2 (omega arith),
        body-entry bs n is 3 (omega arith),
        body-entry bs n is 4 (omega arith),
        body-entry bs n is 5 (omega arith),
        body-entry bs n is 6 (omega arith),
      )
