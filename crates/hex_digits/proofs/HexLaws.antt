-- Laws of hex digits: what a character that is a digit stands for, how many bytes there are, and the sum of bytes.
-- Assumes nothing.
use Prim.Native.Nat.{ℕ, ◌+◌, ◌-◌, ◌*◌, ◌/◌, ◌%◌, ◌<◌, ◌≤◌}
use native.Mathlib.Omega.{arith}
use mathlib.Core.Path.{◌≡◌, refl, ap, ◌∙◌}
use mathlib.Core.Bool.{Bool, true, false, ◌&&◌}
use mathlib.Core.List.{List, [], ◌∷◌, ◌++◌}
use mathlib.Core.Logic.{◌⊎◌, ⊎_elim, inl, inr}
use lib.Dec.{leb, ltb}
use lib.ListN.{length}
use lib.Seq.{length-take-le}
use borrow.Author.Tests.{leb-true, le-leb, lt-leb, ltb-true, ltb-false, lt-ltb, le-ltb}
use Rattle.seq.specs.Lists.{all_of}
use Rattle.hex_digits.specs.Hex.{is_digit, digit_value, digit_of, bytes_of, digits_of, sum8, check_byte}
use Rattle.hex_digits.specs.Frame.{AreBytes, body_of}

-- Two tests joined.
pub both : (a b : Bool) → (a && b) ≡ true → (a ≡ true) × (b ≡ true)
both true b e = (refl, e)
both false b e = absurd (let z : ◌≡◌ {A = ℕ} 0 1 = cc in omega arith)

-- Digits are two stretches of characters.
pub low_digit : (c : ℕ) → 48 ≤ c → c ≤ 57 → (is_digit c ≡ true) × (digit_value c ≡ c - 48)
low_digit c h k = (simp (le-leb 48 c h, le-leb c 57 k), simp (le-leb c 57 k))

pub high_digit : (c : ℕ) → 97 ≤ c → c ≤ 102 → (is_digit c ≡ true) × (digit_value c ≡ c - 87)
high_digit c h k =
    let a : 57 < c = omega arith in
    let b : 48 ≤ c = omega arith in
    (simp (le-leb 48 c b, lt-leb c 57 a, le-leb 97 c h, le-leb c 102 k), simp (lt-leb c 57 a))

pub digit-where : (c : ℕ) → is_digit c ≡ true → ((48 ≤ c) × (c ≤ 57)) ⊎ ((97 ≤ c) × (c ≤ 102))
digit-where c e = by_first (leb 48 c && leb c 57) refl
  where
    by_first : (b : Bool) → (leb 48 c && leb c 57) ≡ b → ((48 ≤ c) × (c ≤ 57)) ⊎ ((97 ≤ c) × (c ≤ 102))
    by_first true f = let w = both (leb 48 c) (leb c 57) f in inl (leb-true 48 c w.0, leb-true c 57 w.1)
    by_first false f = let w = both (leb 97 c) (leb c 102) (simp f at e) in inr (leb-true 97 c w.0, leb-true c 102 w.1)

-- What holds in both stretches, of a digit and its value, holds of every digit.
pub each-digit : (P : ℕ → ℕ → Type 0) → ((c : ℕ) → 48 ≤ c → c ≤ 57 → P c (c - 48)) → ((c : ℕ) → 97 ≤ c → c ≤ 102 → P c (c - 87)) → (c : ℕ)
    → is_digit c ≡ true → P c (digit_value c)
each-digit P f g c e =
    ⊎_elim
    (λ (w : (48 ≤ c) × (c ≤ 57)). rw (low_digit c w.0 w.1).1 (f c w.0 w.1))
    (λ (w : (97 ≤ c) × (c ≤ 102)). rw (high_digit c w.0 w.1).1 (g c w.0 w.1))
    (digit-where c e)

pub digit-fits : (c : ℕ) → is_digit c ≡ true → digit_value c < 16
digit-fits = each-digit (λ (c v : ℕ). v < 16) (λ c h k. omega arith) (λ c h k. omega arith)

pub sum8-fits : (bs : List ℕ) → sum8 bs < 256
unfolding sum8
sum8-fits [] = omega arith
sum8-fits (b ∷ bs) = omega arith

pub sum8-append : (bs cs : List ℕ) → sum8 (bs ++ cs) ≡ (sum8 bs + sum8 cs) % 256
unfolding sum8
sum8-append [] cs = omega (arith, sum8-fits cs)
sum8-append (b ∷ bs) cs = let e = sum8-append bs cs in omega arith

-- The check byte brings the sum to zero.
pub check-sum : (bs : List ℕ) → sum8 (bs ++ (check_byte bs ∷ [])) ≡ 0
unfolding sum8
check-sum bs = omega (arith, sum8-append bs (check_byte bs ∷ []), sum8-fits bs)

-- The digit of a value stands for it.
pub shown : (n : ℕ) → n < 16 → (is_digit (digit_of n) ≡ true) × (digit_value (digit_of n) ≡ n)
shown n h = by_ten (ltb n 10) refl
  where
    by_ten : (b : Bool) → ltb n 10 ≡ b → (is_digit (digit_of n) ≡ true) × (digit_value (digit_of n) ≡ n)
    by_ten true e =
        let k : n < 10 = ltb-true n 10 e in
        let d = low_digit (48 + n) (omega arith) (omega arith) in
        rw e (d.0, d.1 ∙ omega arith)
    by_ten false e =
        let k : 10 ≤ n = ltb-false n 10 e in
        let d = high_digit (87 + n) (omega arith) (omega arith) in
        rw e (d.0, d.1 ∙ omega arith)

-- The digits of bytes are hex, and stand for those bytes.
pub digits-hex : (bs : List ℕ) → AreBytes bs → all_of is_digit (digits_of bs) ≡ true
unfolding AreBytes all_of digits_of
digits-hex [] h = refl
digits-hex (b ∷ bs) h =
    let k = h.0 in
    rw ((shown (b / 16) (omega arith)).0, (shown (b % 16) (omega arith)).0, digits-hex bs h.1)

pub digits-length : (bs : List ℕ) → length (digits_of bs) ≡ 2 * length bs
unfolding digits_of
digits-length [] = refl
digits-length (b ∷ bs) = let e = digits-length bs in omega arith

pub digits-back : (bs : List ℕ) → AreBytes bs → bytes_of (digits_of bs) ≡ bs
unfolding AreBytes bytes_of digits_of
digits-back [] h = refl
digits-back (b ∷ bs) h =
    let k = h.0 in
    let e : 16 * digit_value (digit_of (b / 16)) + digit_value (digit_of (b % 16)) ≡ b =
    omega (arith, (shown (b / 16) (omega arith)).1, (shown (b % 16) (omega arith)).1) in
    rw (e, digits-back bs h.1)

-- The other way round: hex pairs stand for bytes, whose digits they are.
digit-back : (c : ℕ) → is_digit c ≡ true → digit_of (digit_value c) ≡ c
digit-back =
    each-digit (λ (c v : ℕ). digit_of v ≡ c)
    (λ c h k. let d : digit_of (c - 48) ≡ 48 + (c - 48) = simp (lt-ltb (c - 48) 10 (omega arith)) in d ∙ omega arith)
    (λ c h k. let d : digit_of (c - 87) ≡ 87 + (c - 87) = simp (le-ltb (c - 87) 10 (omega arith)) in d ∙ omega arith)

pub hex-bytes : (cs : List ℕ) → all_of is_digit cs ≡ true → AreBytes (bytes_of cs)
unfolding AreBytes all_of bytes_of
hex-bytes [] e = tt
hex-bytes (c ∷ []) e = tt
hex-bytes (h ∷ l ∷ cs) e =
    let p = both (is_digit h) (is_digit l && all_of is_digit cs) e in
    let q = both (is_digit l) (all_of is_digit cs) p.1 in
    (omega (arith, digit-fits h p.0, digit-fits l q.0), hex-bytes cs q.1)

pub hex-back : (cs : List ℕ) → all_of is_digit cs ≡ true → length cs % 2 ≡ 0 → digits_of (bytes_of cs) ≡ cs
unfolding all_of bytes_of digits_of
hex-back [] e f = refl
hex-back (c ∷ []) e f = absurd (omega arith)
hex-back (h ∷ l ∷ cs) e f =
    let p = both (is_digit h) (is_digit l && all_of is_digit cs) e in
    let q = both (is_digit l) (all_of is_digit cs) p.1 in
    let hf = digit-fits h p.0 in
    let lf = digit-fits l q.0 in
    let n = 16 * digit_value h + digit_value l in
    let high : n / 16 ≡ digit_value h = omega arith in
    let low : n % 16 ≡ digit_value l = omega arith in
    let rest : digits_of (bytes_of cs) ≡ cs = hex-back cs q.1 (let k : length cs % 2 ≡ 0 = omega arith in k) in
    ap (λ (x : ℕ). digit_of x ∷ digit_of (n % 16) ∷ digits_of (bytes_of cs)) high
    ∙ ap (λ (x : ℕ). digit_of (digit_value h) ∷ digit_of x ∷ digits_of (bytes_of cs)) low
    ∙ ap (λ (x : ℕ). x ∷ digit_of (digit_value l) ∷ digits_of (bytes_of cs)) (digit-back h p.0)
    ∙ ap (λ (x : ℕ). h ∷ x ∷ digits_of (bytes_of cs)) (digit-back l q.0)
    ∙ ap (λ (t : List ℕ). h ∷ l ∷ t) rest

-- How many bytes there are, and how many of them are the body.
pub bytes-length : (cs : List ℕ) → length (bytes_of cs) ≡ length cs / 2
unfolding bytes_of
bytes-length [] = refl
bytes-length (c ∷ []) = refl
bytes-length (h ∷ l ∷ cs) = let e = bytes-length cs in omega arith

pub body-length : (bs : List ℕ) → length (body_of bs) ≡ length bs - 1
unfolding body_of
body-length bs = length-take-le (length bs - 1) bs (omega arith)

pub not-second : (a b : Bool) → b ≡ false → (a && b) ≡ false
not-second true b e = e
not-second false b e = refl
