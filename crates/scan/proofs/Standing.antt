-- A good line at a place of a buffer: what its first digits tell, and that it ends where its kind says.
-- Assumes nothing.
use Rattle.std.proofs.Common.{◌≡◌, ℕ, suc, ◌+◌, ◌%◌, ◌<◌, ◌≤◌, Bool, true, false, ltb, eqb, List, ◌∷◌, ◌++◌, length, get_or, take, drop, sym, refl, ap, subst, ◌∙◌, arith, lt-ltb, ltb-true, eqb-true}
use Rattle.std.specs.Prelude.{Option, Some, None}
use Rattle.std.proofs.lemmas.List.{take-append-drop, get_or-take}
use lib.ListN.{length-drop}
use lib.Seq.{drop-cons, length-take-le}
use Rattle.seq.specs.Lists.{all_of, lowest}
use Rattle.seq.proofs.Tests.{and_left}
use Rattle.seq.proofs.Walks.{lowest-passes}
use Rattle.buffer.specs.Buffer.{is_newline, line_end, line_at}
use Rattle.hex_digits.specs.Hex.{is_digit, is_hex, digits_of}
use Rattle.hex_digits.specs.Frame.{framed}
use Rattle.framing.proofs.Standing.{first-newline}
use Rattle.line.specs.declared.Call.{Call}
use Rattle.line.specs.declared.Call.TheVariants.{Init, GetEmptyPic, PutPic, OutPic, RefpInit, PocDerivation}
use Rattle.line.specs.Calls.{call_bytes, call_kind, read_line}
use Rattle.line.specs.Lines.{call_at}
use Rattle.line.proofs.Bodies.{calls-faithful}
use Rattle.line.proofs.Reading.{bad-digits}
use Rattle.scan.specs.Kinds.{line_length}

no-call : {A : Type 0} {a : A} → None ≡ Some a → ⊥
no-call e = let z : ◌≡◌ {A = ℕ} 0 1 = cc in omega arith

-- What the first digits of a call line are, and that they tell its length.
record Opens (l : List ℕ) : Type 0 where
  pub zero : get_or l 0 0 ≡ 48
  pub sized : line_length (get_or l 1 0) ≡ Some (length l)
  pub long : 2 ≤ length l

opens : (call : Call) → Opens (framed (call_bytes call))
unfolding digits_of
opens (Init size refs) = record { zero = refl; sized = refl; long = omega arith }
opens GetEmptyPic = record { zero = refl; sized = refl; long = omega arith }
opens (PutPic flags poc layer gap) = record { zero = refl; sized = refl; long = omega arith }
opens OutPic = record { zero = refl; sized = refl; long = omega arith }
opens (RefpInit slice poc layer intra limit) = record { zero = refl; sized = refl; long = omega arith }
opens (PocDerivation length layer) = record { zero = refl; sized = refl; long = omega arith }

line-opens : (l : List ℕ) (call : Call) → read_line l ≡ Some call → Opens l
unfolding read_line call_kind
line-opens l call e = subst Opens (sym (calls-faithful.one_line l call e)) (opens call)

digits-only : (l : List ℕ) (call : Call) → read_line l ≡ Some call → all_of is_digit l ≡ true
digits-only l call e = by (is_hex l) refl
  where
    by : (b : Bool) → is_hex l ≡ b → all_of is_digit l ≡ true
    by true f = and_left (all_of is_digit l) (eqb (length l % 2) 0) f
    by false f = absurd (no-call (sym (bad-digits l f) ∙ e))

-- The first newline of characters is the one that stands behind a call line.
first-end : (cs : List ℕ) (m : ℕ) (call : Call) → m < length cs → get_or cs m 0 ≡ 10 → read_line (take m cs) ≡ Some call → lowest is_newline cs ≡ m
first-end cs m call h n e =
    let rest = drop (suc m) cs in
    let parts : cs ≡ take m cs ++ (10 ∷ rest) =
    sym (take-append-drop m cs) ∙ ap (λ (l : List ℕ). take m cs ++ l) (drop-cons cs m 0 h ∙ ap (λ (c : ℕ). c ∷ rest) n) in
    ap (lowest is_newline) parts
    ∙ first-newline (take m cs) rest (digits-only (take m cs) call e)
    ∙ length-take-le m cs (omega arith)

-- What a call line of m characters says of the characters that it opens.
pub record Good (cs : List ℕ) (m : ℕ) : Type 0 where
  pub inside : m < length cs
  pub ends : get_or cs m 0 ≡ 10
  pub zero : get_or cs 0 0 ≡ 48
  pub sized : line_length (get_or cs 1 0) ≡ Some m
  pub long : 2 ≤ m

good : (cs : List ℕ) (m : ℕ) (call : Call) → m < length cs → get_or cs m 0 ≡ 10 → read_line (take m cs) ≡ Some call → Good cs m
good cs m call h n e =
    let o = line-opens (take m cs) call e in
    let size : length (take m cs) ≡ m = length-take-le m cs (omega arith) in
    let long : 2 ≤ m = let l = o.long in omega arith in
    record {
      inside = h;
      ends = n;
      zero = sym (get_or-take m cs 0 0 (omega arith)) ∙ o.zero;
      sized = ap line_length (sym (get_or-take m cs 1 0 (omega arith))) ∙ o.sized ∙ ap Some size;
      long = long;
    }

module _ (buffer : List ℕ) (at : ℕ) where
  abbrev There : List ℕ → Type 0
  There cs =
      (m : ℕ) (call : Call) → m < length cs → get_or cs m 0 ≡ 10 → read_line (take m cs) ≡ Some call
      → call_at buffer at ≡ Some (call, at + m + 1)

  here : There (drop at buffer)
  unfolding call_at
  here m call h n e =
      let low = first-end (drop at buffer) m call h n e in
      let inside : at + m < length buffer = omega (arith, length-drop at buffer) in
      rw (low, lt-ltb (at + m) (length buffer) inside, e)

  -- The call there, where its line and the newline stand.
  pub there : (cs : List ℕ) → drop at buffer ≡ cs → There cs
  there cs is = subst There is here

  abbrev NoneThere : List ℕ → Type 0
  NoneThere cs = ((m : ℕ) (call : Call) → Good cs m → read_line (take m cs) ≡ Some call → ⊥) → call_at buffer at ≡ None

  none-here : NoneThere (drop at buffer)
  unfolding call_at
  none-here fails = by_end (ltb (line_end buffer at) (length buffer)) refl
    where
      by_line : line_end buffer at < length buffer → (o : Option Call) → read_line (line_at buffer at) ≡ o → call_at buffer at ≡ None
      by_line h None e = rw (lt-ltb (line_end buffer at) (length buffer) h, e)
      by_line h (Some call) e =
          let cs = drop at buffer in
          let m = lowest is_newline cs in
          let inside : m < length cs = omega (arith, length-drop at buffer) in
          let ends = eqb-true (get_or cs m 0) 10 (lowest-passes 0 is_newline cs inside) in
          absurd (fails m call (good cs m call inside ends e) e)

      by_end : (b : Bool) → ltb (line_end buffer at) (length buffer) ≡ b → call_at buffer at ≡ None
      by_end false e = rw e
      by_end true e = by_line (ltb-true (line_end buffer at) (length buffer) e) (read_line (line_at buffer at)) refl

  -- No call stands there, where none can.
  pub none-there : (cs : List ℕ) → drop at buffer ≡ cs → NoneThere cs
  none-there cs is = subst NoneThere is none-here

-- An answer is one of the two, and of one value.
pub not-both : {A : Type 0} {o : Option A} {a : A} → o ≡ None → o ≡ Some a → ⊥
not-both e f = no-call (sym e ∙ f)

pub same-some : {A : Type 0} {o : Option A} {a b : A} → o ≡ Some a → o ≡ Some b → a ≡ b
same-some e f = same (sym e ∙ f)
  where
    same : {A : Type 0} {a b : A} → Some a ≡ Some b → a ≡ b
    same e = cc
