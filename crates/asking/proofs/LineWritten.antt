-- A call that fits its bytes is written where there is room, and stands then at the front as a text.
-- Assumes nothing.
use Prim.Native.Nat.{ℕ, ◌+◌, ◌≤◌}
use Rattle.std.specs.Prelude.{Ok, Err, Result, is_some}
use native.Mathlib.Omega.{arith}
use mathlib.Core.Path.{◌≡◌, sym, ap, ◌∙◌}
use mathlib.Core.Bool.{true}
use mathlib.Core.List.{List, [], ◌∷◌}
use lib.ListN.{length, length-append, take, drop}
use lib.Seq.{paste, sets, sets-eq, take_at}
use borrow.Author.Tests.{le-ltb}
use Rattle.def.specs.declared.Refusal.{Refusal}
use Rattle.hex_digits.specs.Frame.{framed}
use Rattle.buffer.specs.Buffer.{newline}
use Rattle.framing.specs.Framing.{whole_of, line_size}
use Rattle.framing.proofs.Standing.{framed-size}
use Rattle.line.specs.declared.Call.{Call}
use Rattle.line.specs.declared.Call.TheVariants.{Init, GetEmptyPic, PutPic, OutPic, RefpInit, PocDerivation}
use Rattle.line.specs.Calls.{call_bytes, call_kind}
use Rattle.line.specs.Claims.{CallFits}
use Rattle.line.proofs.Bodies.{calls-lawful}
use Rattle.writer.specs.Writing.{WrittenOut, written_out, is_call_body, written}
use Rattle.phrases.proofs.Adding.{pasted}

size-most : (call : Call) → line_size (call_bytes call) ≤ 27
size-most (Init a b) = omega arith
size-most GetEmptyPic = omega arith
size-most (PutPic a b c d) = omega arith
size-most OutPic = omega arith
size-most (RefpInit a b c d e) = omega arith
size-most (PocDerivation a b) = omega arith

whole-size : (body : List ℕ) → length (whole_of body) ≡ line_size body
whole-size body = omega (arith, framed-size body, length-append (framed body) (newline ∷ []))

is-call : (call : Call) → CallFits call → is_call_body (call_bytes call) ≡ true
unfolding call_kind
is-call call f = ap is_some (calls-lawful.reads call f)

module _ (call : Call) (target : List ℕ) (f : CallFits call) (room : 27 ≤ length target) where
  abbrev body : List ℕ
  body = call_bytes call

  abbrev wrote : WrittenOut
  wrote = written_out (Ok (line_size body)) (paste target 0 (whole_of body) (line_size body))

  line-written : written body target ≡ wrote
  unfolding written
  line-written = rw (is-call call f, le-ltb (length target) (line_size body) (let m = size-most call in omega arith))

  module _ (r : Result ℕ Refusal) (after : List ℕ) (e : written_out r after ≡ written body target) where
    same : written_out r after ≡ wrote
    same = e ∙ line-written

    pub line-given : (n : ℕ) → r ≡ Ok n → take n after ≡ whole_of body
    line-given n t =
        let given : r ≡ Ok (line_size body) = ap (λ (w : WrittenOut). w.given) same in
        let size : n ≡ line_size body = cc in
        let text : after ≡ paste target 0 (whole_of body) (line_size body) = ap (λ (w : WrittenOut). w.target) same in
        let long = whole-size body in
        let m = size-most call in
        let front : after ≡ sets target 0 (whole_of body) =
        text ∙ ap (paste target 0 (whole_of body)) (sym long) ∙ pasted target (whole_of body) 0 (omega arith) in
        ap (take n) (front ∙ sets-eq (whole_of body) target 0 (omega arith)) ∙ take_at (whole_of body) (drop (0 + length (whole_of body)) target) n (omega arith)

    pub line-not-refused : (why : Refusal) → r ≡ Err why → ⊥
    line-not-refused why t =
        let given : r ≡ Ok (line_size body) = ap (λ (w : WrittenOut). w.given) same in
        let z : ◌≡◌ {A = ℕ} 0 1 = cc in
        omega arith
