-- A line is its body, in hex and with its check byte, and so a kind of line is as faithful as its bodies.
-- Assumes nothing.
use Rattle.std.specs.Prelude.{Option, Some, None}
use Prim.Native.Nat.{ℕ, zero, suc, ◌-◌, ◌%◌, ◌<◌}
use native.Mathlib.Omega.{arith}
use mathlib.Core.Path.{◌≡◌, refl, sym, ap, ◌∙◌}
use mathlib.Core.Bool.{Bool, true, false, cond}
use mathlib.Core.List.{List, [], ◌∷◌, ◌++◌}
use lib.Dec.{ltb, eqb}
use lib.ListN.{length, take, drop, length-append, drop_of_length-le, take-append-drop}
use lib.Seq.{take_at, drop-cons}
use borrow.Author.Tests.{ltb-true, lt-ltb, eqb-true, eq-eqb}
use Rattle.seq.specs.Lists.{all_of}
use Rattle.seq.proofs.Tests.{and_left, and_right, and_both}
use Rattle.hex_digits.specs.Hex.{is_digit, is_hex, bytes_of, digits_of, sum8, check_byte}
use Rattle.hex_digits.specs.Frame.{AreBytes, with_check, framed, is_checked, body_of, Kind, from_bytes, from_line, line_of, byte_at}
use Rattle.hex_digits.specs.Claims.{Lawful, LinesFaithful}
use Rattle.hex_digits.proofs.HexLaws.{sum8-append, sum8-fits, check-sum, digits-hex, digits-length, digits-back, hex-bytes, hex-back}

-- ---- a body with its check byte

pub body_back : (b : List ℕ) → body_of (with_check b) ≡ b
unfolding body_of
body_back b =
    let n : length (with_check b) - 1 ≡ length b = omega (arith, length-append b (check_byte b ∷ [])) in
    rw n (take_at b (check_byte b ∷ []) (length b) refl)

pub checked : (b : List ℕ) → is_checked (with_check b) ≡ true
checked b = and_both (lt-ltb 0 (length (with_check b)) (omega (arith, length-append b (check_byte b ∷ [])))) (eq-eqb (sum8 (with_check b)) 0 (check-sum b))

check-bytes : (b : List ℕ) → AreBytes b → AreBytes (with_check b)
unfolding AreBytes
check-bytes b h = with_byte (check_byte b) (omega arith) b h
  where
    with_byte : (c : ℕ) → c < 256 → (b : List ℕ) → AreBytes b → AreBytes (b ++ (c ∷ []))
    with_byte c f [] h = (f, tt)
    with_byte c f (x ∷ b) h = (h.0, with_byte c f b h.1)

-- The last byte of a list that sums to zero is the check byte of those before it.
last-check : (bs : List ℕ) (b : ℕ) → b < 256 → sum8 (bs ++ (b ∷ [])) ≡ 0 → b ≡ check_byte bs
unfolding sum8
last-check bs b h e = omega (arith, sum8-append bs (b ∷ []), sum8-fits bs)

pub byte_fits : (bs : List ℕ) → AreBytes bs → (i : ℕ) → byte_at bs i < 256
unfolding AreBytes
byte_fits [] h i = omega arith
byte_fits (b ∷ bs) h zero = h.0
byte_fits (b ∷ bs) h (suc i) = byte_fits bs h.1 i

pub body_bytes : (bs : List ℕ) → AreBytes bs → AreBytes (body_of bs)
unfolding body_of AreBytes
body_bytes bs h = front (length bs - 1) bs h
  where
    front : (n : ℕ) (bs : List ℕ) → AreBytes bs → AreBytes (take n bs)
    front zero bs h = tt
    front (suc n) [] h = tt
    front (suc n) (b ∷ bs) h = (h.0, front n bs h.1)

pub checked-body : (bs : List ℕ) → AreBytes bs → is_checked bs ≡ true → bs ≡ with_check (body_of bs)
unfolding body_of
checked-body bs h e =
    let some_byte = ltb-true 0 (length bs) (and_left (ltb 0 (length bs)) (eqb (sum8 bs) 0) e) in
    let zero-sum = eqb-true (sum8 bs) 0 (and_right (ltb 0 (length bs)) (eqb (sum8 bs) 0) e) in
    let n = length bs - 1 in
    let one : suc n ≡ length bs = omega arith in
    let last : drop n bs ≡ byte_at bs n ∷ [] =
    rw (drop_of_length-le bs {i = suc n} (omega arith)) at (drop-cons bs n 0 (omega arith)) in
    let split : bs ≡ take n bs ++ (byte_at bs n ∷ []) = rw last at (sym (take-append-drop n bs)) in
    rw (last-check (take n bs) (byte_at bs n) (byte_fits bs h n) (sym (ap sum8 split) ∙ zero-sum)) at split

-- ---- a line of a body

pub framed-hex : (b : List ℕ) → AreBytes b → is_hex (framed b) ≡ true
framed-hex b h =
    let k = check-bytes b h in
    and_both (digits-hex (with_check b) k) (eq-eqb (length (framed b) % 2) 0 (omega (arith, digits-length (with_check b))))

pub framed-bytes : (b : List ℕ) → AreBytes b → bytes_of (framed b) ≡ with_check b
framed-bytes b h = digits-back (with_check b) (check-bytes b h)

-- ---- the three properties

module _ {A : Type 0} (kind : Kind A) (Fits : A → Type 0) (lawful : Lawful kind Fits) where
  back : (a : A) → Fits a → from_line kind (line_of kind a) ≡ Some a
  back a f =
      let b = kind.body a in
      let h = lawful.bytes a f in
      rw (framed-hex b h, framed-bytes b h, checked b, body_back b) (lawful.reads a f)

  found : {B : Type 0} (b : Bool) (o : Option B) (a : B) → cond b o None ≡ Some a → (b ≡ true) × (o ≡ Some a)
  found true o a e = (refl, e)
  found false o a e = absurd (let z : ◌≡◌ {A = ℕ} 0 1 = cc in omega arith)

  one : (cs : List ℕ) (a : A) → from_line kind cs ≡ Some a → cs ≡ line_of kind a
  one cs a e =
      let p = found (is_hex cs) (from_bytes kind (bytes_of cs)) a e in
      let q = found (is_checked (bytes_of cs)) (kind.meaning (body_of (bytes_of cs))) a p.1 in
      let hex = and_left (all_of is_digit cs) (eqb (length cs % 2) 0) p.0 in
      let even = eqb-true (length cs % 2) 0 (and_right (all_of is_digit cs) (eqb (length cs % 2) 0) p.0) in
      let h = hex-bytes cs hex in
      sym (hex-back cs hex even)
      ∙ ap digits_of (checked-body (bytes_of cs) h q.0)
      ∙ ap framed (lawful.one (body_of (bytes_of cs)) a (body_bytes (bytes_of cs) h) q.1)

  differ : (a b : A) → Fits a → Fits b → line_of kind a ≡ line_of kind b → a ≡ b
  differ a b f g e = let p : Some a ≡ Some b = sym (back a f) ∙ ap (from_line kind) e ∙ back b g in cc

pub lines-faithful : LinesFaithful
lines-faithful A kind Fits lawful = record { reads_back = back kind Fits lawful; one_line = one kind Fits lawful; lines_differ = differ kind Fits lawful }
