-- Stores one after the other, as a paste: the line of a body.
-- Assumes nothing.
use Prim.Native.Nat.{ℕ, ◌+◌, ◌*◌, ◌≤◌}
use native.Mathlib.Omega.{arith}
use native.Mathlib.Nat.{zero-add}
use mathlib.Core.Path.{◌≡◌, refl, sym, ap, subst, ◌∙◌}
use mathlib.Core.List.{List, [], ◌∷◌, ◌++◌, append_assoc}
use lib.ListN.{length, take, drop, set}
use lib.Seq.{take_all, paste}
use Rattle.seq.specs.Lists.{Stored}
use Rattle.seq.proofs.Stores.{stored_one, stored-then, stored-part}
use Rattle.hex_digits.specs.Hex.{digits_of, check_byte}
use Rattle.buffer.specs.Buffer.{newline}
use Rattle.framing.specs.Framing.{whole_of, line_size}

pub stored-paste : {bs after ys : List ℕ} {i n : ℕ} → Stored bs i ys n after → i + n ≤ length bs → after ≡ paste bs i ys n
stored-paste {bs} {after} {ys} {i} {n} p h =
    let w = p.wide in
    stored-part p h
    ∙ ap (λ (l : List ℕ). take i bs ++ (l ++ drop (i + n) bs)) (sym (take_all n ys (omega arith)))
    ∙ sym (append_assoc (take i bs) (take n ys) (drop (i + n) bs))

digits_append : (xs ys : List ℕ) → digits_of (xs ++ ys) ≡ digits_of xs ++ digits_of ys
unfolding digits_of
digits_append [] ys = refl
digits_append (x ∷ xs) ys = rw (digits_append xs ys)

whole_parts : (body : List ℕ) → digits_of body ++ (digits_of (check_byte body ∷ []) ++ (newline ∷ [])) ≡ whole_of body
whole_parts body =
    sym
    (ap (λ (l : List ℕ). l ++ (newline ∷ [])) (digits_append body (check_byte body ∷ []))
    ∙ append_assoc (digits_of body) (digits_of (check_byte body ∷ [])) (newline ∷ []))

-- The digits of a body, those of its check byte, and the newline.
pub line-stored : {bs mid after : List ℕ} (body : List ℕ) (check : ℕ) → Stored bs 0 (digits_of body) (2 * length body) mid → check ≡ check_byte body
    → Stored mid (2 * length body) (digits_of (check ∷ [])) 2 after → Stored bs 0 (whole_of body) (line_size body) (set after (2 * length body + 2) newline)
line-stored {bs} {mid} {after} body check p e q =
    let n = 2 * length body in
    let last = stored-then q (stored_one newline refl) in
    let moved =
    subst (λ (k : ℕ). Stored mid k (digits_of (check ∷ []) ++ (newline ∷ [])) 3 (set after (n + 2) newline)) (sym (zero-add n)) last in
    let whole : digits_of body ++ (digits_of (check ∷ []) ++ (newline ∷ [])) ≡ whole_of body =
    ap (λ (c : ℕ). digits_of body ++ (digits_of (c ∷ []) ++ (newline ∷ []))) e ∙ whole_parts body in
    subst (λ (l : List ℕ). Stored bs 0 l (line_size body) (set after (n + 2) newline)) whole (stored-then p moved)
