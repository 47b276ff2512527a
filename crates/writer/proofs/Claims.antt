-- The claims about the writer, proved.
-- Assumes nothing.
use Rattle.std.specs.Prelude.{Some, Ok, Err, is_some}
use Prim.Native.Nat.{ℕ, ◌+◌, ◌<◌, ◌≤◌}
use native.Mathlib.Omega.{arith}
use mathlib.Core.Path.{◌≡◌, refl, sym, ap, ◌∙◌}
use mathlib.Core.Bool.{Bool, true, false, cond}
use mathlib.Core.List.{List, [], ◌∷◌, ◌++◌}
use lib.Dec.{ltb}
use lib.ListN.{length, drop, length-append}
use lib.Seq.{paste, drop-paste, take_at, take_all, append_snoc}
use borrow.Author.Tests.{lt-ltb, le-ltb}
use Rattle.seq.specs.Lists.{lowest}
use Rattle.def.specs.declared.Refusal.{Refusal}
use Rattle.line.specs.declared.Call.{Call}
use Rattle.hex_digits.specs.Hex.{digits_of, sum8}
use Rattle.hex_digits.specs.Frame.{framed}
use Rattle.line.specs.Calls.{call_bytes, call_in, call_kind, read_line}
use Rattle.buffer.specs.Buffer.{newline, is_newline}
use Rattle.framing.specs.Framing.{whole_of, line_size}
use Rattle.framing.proofs.Standing.{framed-end, framed-size}
use Rattle.line.specs.Lines.{call_at}
use Rattle.line.specs.Claims.{CallFits}
use Rattle.line.proofs.Bodies.{calls-lawful, calls-faithful}
use Rattle.writer.specs.Writing.{WrittenOut, written_out, is_call_body, written}
use Rattle.writer.specs.Claims.{WrittenIsRead, NoRoomIsTwenty, FlagsBeforeRoom, RefusedUnwritten, GetIntoSix, GetIntoFour}

is-call : (call : Call) → CallFits call → is_call_body (call_bytes call) ≡ true
unfolding call_kind
is-call call f = ap is_some (calls-lawful.reads call f)

pub no-room-is-twenty : NoRoomIsTwenty
unfolding written
no-room-is-twenty call target f h = rw (is-call call f, lt-ltb (length target) (line_size (call_bytes call)) h)

pub flags-before-room : FlagsBeforeRoom
unfolding written call_in
flags-before-room flags poc layer gap target h = rw (lt-ltb 15 flags h)

pub get-into-six : GetIntoSix
unfolding written call_in digits_of sum8
get-into-six = refl

pub get-into-four : GetIntoFour
unfolding written call_in
get-into-four = refl

pub refused-unwritten : RefusedUnwritten
unfolding written
refused-unwritten fields target why e = by (is_call_body fields) (ltb (length target) (line_size fields)) e
  where
    left : Bool → Bool → WrittenOut
    left a b =
        cond a
        (cond b (written_out (Err Refusal.NoRoom) target)
        (written_out (Ok (line_size fields)) (paste target 0 (whole_of fields) (line_size fields))))
        (written_out (Err Refusal.BadLine) target)

    by : (a b : Bool) → (left a b).given ≡ Err why → (left a b).target ≡ target
    by false b e = refl
    by true true e = refl
    by true false e = absurd (let z : ◌≡◌ {A = ℕ} 0 1 = cc in omega arith)

reads : (call : Call) → CallFits call → read_line (framed (call_bytes call)) ≡ Some call
unfolding read_line call_kind
reads call f = calls-faithful.reads_back call f

at_front : (call : Call) (rest : List ℕ) → CallFits call → call_at (framed (call_bytes call) ++ (newline ∷ rest)) 0 ≡ Some (call, line_size (call_bytes call))
unfolding call_at
at_front call rest f =
    let body = call_bytes call in
    let cs = framed body ++ (newline ∷ rest) in
    let low : lowest is_newline cs ≡ length (framed body) = framed-end body rest (calls-lawful.bytes call f) in
    let long = length-append (framed body) (newline ∷ rest) in
    let inside : 0 + length (framed body) < length cs = omega arith in
    let next : 0 + length (framed body) + 1 ≡ line_size body = omega (arith, framed-size body) in
    rw (low, lt-ltb (0 + length (framed body)) (length cs) inside, take_at (framed body) (newline ∷ rest) (length (framed body)) refl, reads call f, next)

front : (body target : List ℕ) → line_size body ≤ length target
    → paste target 0 (whole_of body) (line_size body) ≡ framed body ++ (newline ∷ drop (line_size body) target)
front body target h =
    let size : length (whole_of body) ≡ line_size body = omega (arith, framed-size body, length-append (framed body) (newline ∷ [])) in
    let none : 0 + line_size body ≡ line_size body = omega arith in
    rw (none, take_all (line_size body) (whole_of body) (omega arith)) (append_snoc (framed body) newline (drop (line_size body) target))

back : (body target : List ℕ) → line_size body ≤ length target
    → drop (line_size body) (paste target 0 (whole_of body) (line_size body)) ≡ drop (line_size body) target
back body target h =
    let size : length (whole_of body) ≡ line_size body = omega (arith, framed-size body, length-append (framed body) (newline ∷ [])) in
    let none : 0 + line_size body ≡ line_size body = omega arith in
    ap (λ (k : ℕ). drop k (paste target 0 (whole_of body) (line_size body))) (sym none)
    ∙ drop-paste target 0 (whole_of body) (line_size body) (omega arith) (omega arith)
    ∙ ap (λ (k : ℕ). drop k target) none

pub written-is-read : WrittenIsRead
unfolding written
written-is-read call target f h =
    let body = call_bytes call in
    let all : written body target ≡ written_out (Ok (line_size body)) (paste target 0 (whole_of body) (line_size body)) =
    rw (is-call call f, le-ltb (length target) (line_size body) h) in
    record {
      given = rw all;
      read =
          ap (λ (w : WrittenOut). call_at w.target 0) all
          ∙ ap (λ (l : List ℕ). call_at l 0) (front body target h)
          ∙ at_front call (drop (line_size body) target) f;
      behind = rw all (back body target h);
    }
