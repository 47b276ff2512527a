-- What the one pass over keys has gathered in the end tells which rules the keys keep.
-- Assumes nothing.
use mathlib.Core.Path.{◌≡◌, refl, sym, ap, ap₂, ◌∙◌}
use mathlib.Core.Bool.{Bool, true, false, cond, not, ◌&&◌, ◌||◌, and_assoc, and-true, and-false}
use mathlib.Core.List.{List, [], ◌∷◌, map}
use mathlib.Core.Logic.{◌⊎◌, inl, inr}
use Prim.Native.Nat.{ℕ, zero, suc, ◌+◌, ◌-◌, ◌*◌, ◌/◌, ◌%◌, ◌^◌, ◌≤◌, ◌<◌, max}
use native.Mathlib.Nat.{one-mul, zero-mul, pow-suc, div-eq_of_lt, mul-mod_left, mul-div_cancel, max-le, max-zero, le-max_right}
use native.Mathlib.Numerals.{one-add}
use native.Mathlib.Omega.{arith}
use lib.Bits.{bit_or, bit_and, or_lt, or_step, or_shr, or_add_and, and_le_l, and_le_r, and_high}
use lib.Dec.{eqb, ltb, lit<}
use lib.Arith.{digits_mod}
use lib.Pow.{pow-lt, pow_mono, pow_pos, shl_exact, shr-shr}
use mir.Val.{bool_byte}
use borrow.Author.Tests.{lt-ltb, le-ltb, eqb-true, eqb-false, eq-eqb, ne_eqb}
use lib.ListN.{length, get_or, drop, drop_of_length-le}
use Rattle.seq.proofs.Tests.{lt-or-ge}
use Rattle.seq.proofs.Walks.{drop-step}
use Rattle.seq.specs.Lists.{all_of, any_of, count_if, select, all_differ}
use Rattle.def.specs.State.{slots}
use Rattle.wholeness.specs.declared.tally.Tally.{Tally}
use Rattle.keys.specs.Keys.{key_present, key_marked, key_ref, key_buffer}
use Rattle.wholeness.specs.Tallies.{Roomy, no_tally, strayed, gathered, tallied, tally_all}

-- ---- numbers as sets of bits

-- 1 << n
pub shifted : (n : ℕ) → n < 32 → 1 * 2 ^ n % 4294967296 ≡ 2 ^ n
shifted n h = shl_exact 1 n 32 (lit< tt) (omega arith) ∙ one-mul (2 ^ n)

or-least : (a b : ℕ) → a ≤ bit_or a b
or-least a b = let e = or_add_and a b in let l = and_le_r a b in omega arith

or-least-r : (a b : ℕ) → b ≤ bit_or a b
or-least-r a b = let e = or_add_and a b in let l = and_le_l a b in omega arith

-- both are below a power of two where their union is
or-below : (k a b : ℕ) → ltb (bit_or a b) (2 ^ k) ≡ (ltb a (2 ^ k) && ltb b (2 ^ k))
or-below k a b = pick (lt-or-ge a (2 ^ k)) (lt-or-ge b (2 ^ k))
  where
    pick : (a < 2 ^ k) ⊎ (2 ^ k ≤ a) → (b < 2 ^ k) ⊎ (2 ^ k ≤ b) → ltb (bit_or a b) (2 ^ k) ≡ (ltb a (2 ^ k) && ltb b (2 ^ k))
    pick (inl l) (inl m) = rw (lt-ltb a (2 ^ k) l, lt-ltb b (2 ^ k) m) (lt-ltb (bit_or a b) (2 ^ k) (or_lt k a b l m))
    pick (inl l) (inr g) = rw (lt-ltb a (2 ^ k) l, le-ltb b (2 ^ k) g) (le-ltb (bit_or a b) (2 ^ k) (let o = or-least-r a b in omega arith))
    pick (inr g) m = rw (le-ltb a (2 ^ k) g) (le-ltb (bit_or a b) (2 ^ k) (let o = or-least a b in omega arith))

or-none : (a b : ℕ) → eqb (bit_or a b) 0 ≡ (eqb a 0 && eqb b 0)
or-none a b = below_one (bit_or a b) ∙ or-below 0 a b ∙ ap₂ (λ (x y : Bool). x && y) (sym (below_one a)) (sym (below_one b))
  where
    below_one : (n : ℕ) → eqb n 0 ≡ ltb n 1
    below_one zero = refl
    below_one (suc n) = ne_eqb (suc n) 0 (λ e. omega arith) ∙ sym (le-ltb (suc n) 1 (omega arith))

-- whether n is not in the set
abbrev pub unseen : ℕ → ℕ → Bool
unseen set n = eqb (set / 2 ^ n % 2) 0

-- the n-th bit of a power of two
bit-of-power : (b n : ℕ) → 2 ^ b / 2 ^ n % 2 ≡ bool_byte (eqb b n)
bit-of-power zero zero = refl
bit-of-power zero (suc n) =
    rw (div-eq_of_lt (pow-lt {i = 0} {j = suc n} (omega arith)))
    (sym (ap bool_byte (ne_eqb 0 (suc n) (λ e. omega arith))))
bit-of-power (suc b) zero =
    let whole : 2 ^ b * 2 / 1 ≡ 2 ^ b * 2 = omega arith in
    rw (pow-suc 2 b, whole) (mul-mod_left (2 ^ b) 2 ∙ sym (ap bool_byte (ne_eqb (suc b) 0 (λ e. omega arith))))
bit-of-power (suc b) (suc n) =
    ap (λ (x : ℕ). x % 2) (sym (shr-shr (2 ^ suc b) 1 n ∙ ap (λ (x : ℕ). 2 ^ suc b / 2 ^ x) (one-add n)))
    ∙ ap (λ (x : ℕ). x / 2 ^ 1 / 2 ^ n % 2) (pow-suc 2 b)
    ∙ ap (λ (x : ℕ). x / 2 ^ n % 2) (mul-div_cancel (2 ^ b) (lit< tt))
    ∙ bit-of-power b n
    ∙ ap bool_byte (same b n)
  where
    same : (b n : ℕ) → eqb b n ≡ eqb (suc b) (suc n)
    same b n = pick (eqb b n) refl
      where
        pick : (t : Bool) → eqb b n ≡ t → t ≡ eqb (suc b) (suc n)
        pick true e = sym (eq-eqb (suc b) (suc n) (ap suc (eqb-true b n e)))
        pick false e = sym (ne_eqb (suc b) (suc n) (λ q. eqb-false b n e (omega arith)))

bit-of-union : (a b n : ℕ) → bit_or a b / 2 ^ n % 2 ≡ max (a / 2 ^ n % 2) (b / 2 ^ n % 2)
bit-of-union a b n =
    ap (λ (x : ℕ). x % 2) (or_shr a b n ∙ or_step (a / 2 ^ n) (b / 2 ^ n))
    ∙ digits_mod _ (highest (a / 2 ^ n % 2) (b / 2 ^ n % 2) (omega arith) (omega arith))
  where
    highest : (x y : ℕ) → x < 2 → y < 2 → max x y < 2
    highest x y h k = let l : max x y ≤ 1 = max-le (omega arith) (omega arith) in omega arith

unseen-union : (set b n : ℕ) → unseen (bit_or set (2 ^ b)) n ≡ (not (eqb b n) && unseen set n)
unseen-union set b n = ap (λ (x : ℕ). eqb x 0) (bit-of-union set (2 ^ b) n ∙ ap (max (set / 2 ^ n % 2)) (bit-of-power b n)) ∙ pick (eqb b n) (set / 2 ^ n % 2)
  where
    pick : (t : Bool) (x : ℕ) → eqb (max x (bool_byte t)) 0 ≡ (not t && eqb x 0)
    pick true zero = refl
    pick true (suc x) = ne_eqb (max (suc x) 1) 0 (λ e. omega (arith, le-max_right (suc x) 1))
    pick false x = rw (max-zero x)

all-unseen-union : (set b : ℕ) (ns : List ℕ) → all_of (unseen (bit_or set (2 ^ b))) ns ≡ (not (any_of (eqb b) ns) && all_of (unseen set) ns)
unfolding all_of any_of
all-unseen-union set b [] = refl
all-unseen-union set b (n ∷ ns) =
    rw (unseen-union set b n, all-unseen-union set b ns) (swap (eqb b n) (unseen set n) (any_of (eqb b) ns) (all_of (unseen set) ns))
  where
    swap : (e u a r : Bool) → (not e && u && (not a && r)) ≡ (not (e || a) && (u && r))
    swap true u a r = refl
    swap false true a r = refl
    swap false false a r = sym (and-false (not a))

-- A number that is new to the set adds its bit; one that is not leaves the set as it is.
union-sum : (set b : ℕ) → bit_or set (2 ^ b) + set / 2 ^ b % 2 * 2 ^ b ≡ set + 2 ^ b
union-sum set b =
    ap (λ (x : ℕ). bit_or set (2 ^ b) + x) (sym (and_high set 1 b ∙ refl))
    ∙ ap (λ (x : ℕ). bit_or set (2 ^ b) + bit_and set x) double
    ∙ or_add_and set (2 ^ b)
  where
    double : 2 ^ (1 + b) - 2 ^ b ≡ 2 ^ b
    double = let e : 2 ^ (1 + b) ≡ 2 ^ b * 2 = rw (one-add b) (pow-suc 2 b) in omega arith

-- ---- what is gathered from keys

-- The buffer numbers of the keys with a picture.
abbrev pub held_by : List ℕ → List ℕ
held_by ks = map key_buffer (select key_present ks)

abbrev pub zero_if_none : ℕ → Bool
zero_if_none k = key_present k || eqb k 0

abbrev pub low_if_picture : ℕ → Bool
low_if_picture k = not (key_present k) || ltb k (2 ^ 47)

abbrev pub below27 : ℕ → Bool
below27 b = ltb b 27

pub record Gathered (t u : Tally) (ks : List ℕ) : Type 0 where
  pub no_stray : eqb u.stray 0 ≡ (eqb t.stray 0 && all_of zero_if_none ks)
  pub no-high : ltb u.high (2 ^ 47) ≡ (ltb t.high (2 ^ 47) && all_of low_if_picture ks)
  pub occupied-is : u.occupied ≡ t.occupied + count_if key_present ks
  pub marked-is : u.marked ≡ t.marked + count_if key_marked ks
  pub set_below : ltb u.set (2 ^ 27) ≡ (ltb t.set (2 ^ 27) && all_of below27 (held_by ks))
  pub differ : eqb u.set u.sum ≡ (eqb t.set t.sum && all_differ (held_by ks) && all_of (unseen t.set) (held_by ks))

power_below : (b k : ℕ) → ltb (2 ^ b) (2 ^ k) ≡ ltb b k
power_below b k = pick (lt-or-ge b k)
  where
    pick : (b < k) ⊎ (k ≤ b) → ltb (2 ^ b) (2 ^ k) ≡ ltb b k
    pick (inl l) = lt-ltb (2 ^ b) (2 ^ k) (pow-lt l) ∙ sym (lt-ltb b k l)
    pick (inr g) = le-ltb (2 ^ b) (2 ^ k) (pow_mono g) ∙ sym (le-ltb b k g)

module _ (t u : Tally) (k : ℕ) (ks : List ℕ) where
  none : key_present k ≡ false → Gathered (strayed t k) u ks → Gathered t u (k ∷ ks)
  unfolding all_of count_if select
  none e g = record {
    no_stray =
        rw e
        (g.no_stray
        ∙ ap (λ (b : Bool). b && all_of zero_if_none ks) (or-none t.stray k)
        ∙ and_assoc (eqb t.stray 0) (eqb k 0) (all_of zero_if_none ks));
    no-high = rw e g.no-high;
    occupied-is = rw e g.occupied-is;
    marked-is = rw e g.marked-is;
    set_below = rw e g.set_below;
    differ = rw e g.differ;
  }

  -- The sets are equal to the sums where the numbers are new.
  differs : t.set ≤ t.sum → Gathered (gathered t k) u ks
      → eqb u.set u.sum
      ≡ (eqb t.set t.sum && (not (any_of (eqb (key_buffer k)) (held_by ks)) && all_differ (held_by ks))
      && (unseen t.set (key_buffer k) && all_of (unseen t.set) (held_by ks)))
  differs h g = g.differ ∙ rw (all-unseen-union t.set (key_buffer k) (held_by ks)) (pick (unseen t.set (key_buffer k)) refl)
    where
      b : ℕ
      b = key_buffer k

      bs : List ℕ
      bs = held_by ks

      old : ℕ → ℕ
      old n = t.set / 2 ^ n % 2

      new : Bool
      new = eqb (bit_or t.set (2 ^ b)) (t.sum + 2 ^ b)

      regroup : (a d n v : Bool) → (a && d && (n && v)) ≡ (a && (n && d) && v)
      regroup false d n v = refl
      regroup true true true v = refl
      regroup true true false v = refl
      regroup true false true v = refl
      regroup true false false v = refl

      pick : (v : Bool) → unseen t.set b ≡ v
          → (new && all_differ bs && (not (any_of (eqb b) bs) && all_of (unseen t.set) bs))
          ≡ (eqb t.set t.sum && (not (any_of (eqb b) bs) && all_differ bs) && (v && all_of (unseen t.set) bs))
      pick true e =
          let z : old b ≡ 0 = eqb-true (old b) 0 e in
          let s : bit_or t.set (2 ^ b) ≡ t.set + 2 ^ b =
          (let w = union-sum t.set b in let f : old b * 2 ^ b ≡ 0 = rw z (zero-mul (2 ^ b)) in omega arith) in
          ap (λ (q : Bool). q && all_differ bs && (not (any_of (eqb b) bs) && all_of (unseen t.set) bs))
          (ap (λ (n : ℕ). eqb n (t.sum + 2 ^ b)) s ∙ shift t.set t.sum (2 ^ b))
          ∙ regroup (eqb t.set t.sum) (all_differ bs) (not (any_of (eqb b) bs)) (all_of (unseen t.set) bs)
        where
          shift : (m n d : ℕ) → eqb (m + d) (n + d) ≡ eqb m n
          shift m n d = by (eqb m n) refl
            where
              by : (q : Bool) → eqb m n ≡ q → eqb (m + d) (n + d) ≡ q
              by true f = eq-eqb (m + d) (n + d) (let g = eqb-true m n f in omega arith)
              by false f = ne_eqb (m + d) (n + d) (λ g. eqb-false m n f (omega arith))
      pick false e =
          let z : old b ≡ 1 = (let f = eqb-false (old b) 0 e in one (old b) (omega arith) f) in
          let s : bit_or t.set (2 ^ b) ≡ t.set = (let w = union-sum t.set b in let f : old b * 2 ^ b ≡ 2 ^ b = rw z (one-mul (2 ^ b)) in omega arith) in
          let l : 0 < 2 ^ b = pow_pos b in
          let f : new ≡ false = ne_eqb (bit_or t.set (2 ^ b)) (t.sum + 2 ^ b) (λ q. omega arith) in
          rw f (sym (and-false (eqb t.set t.sum && (not (any_of (eqb b) bs) && all_differ bs))))
        where
          one : (n : ℕ) → n < 2 → (n ≡ 0 → ⊥) → n ≡ 1
          one zero l f = absurd (f refl)
          one (suc zero) l f = refl
          one (suc (suc n)) l f = absurd (omega arith)

  picture : key_present k ≡ true → t.set ≤ t.sum → Gathered (gathered t k) u ks → Gathered t u (k ∷ ks)
  unfolding all_of any_of count_if select all_differ
  picture e h g = record {
    no_stray = rw e g.no_stray;
    no-high =
        rw e
        (g.no-high
        ∙ ap (λ (b : Bool). b && all_of low_if_picture ks) (or-below 47 t.high k)
        ∙ and_assoc (ltb t.high (2 ^ 47)) (ltb k (2 ^ 47)) (all_of low_if_picture ks));
    occupied-is = rw e (let f = g.occupied-is in omega arith);
    marked-is = rw e (g.marked-is ∙ marks (key_ref k) refl);
    set_below =
        rw e (g.set_below
        ∙ ap (λ (b : Bool). b && all_of below27 (held_by ks))
        (or-below 27 t.set (2 ^ key_buffer k) ∙ ap (λ (b : Bool). ltb t.set (2 ^ 27) && b) (power_below (key_buffer k) 27))
        ∙ and_assoc (ltb t.set (2 ^ 27)) (below27 (key_buffer k)) (all_of below27 (held_by ks)));
    differ = rw e (differs h g);
  }
    where
      marks : (r : Bool) → key_ref k ≡ r → t.marked + k / 2 % 2 + count_if key_marked ks ≡ t.marked + cond r (suc (count_if key_marked ks)) (count_if key_marked ks)
      marks true f = let m = eqb-true (k / 2 % 2) 1 f in omega arith
      marks false f = let m = eqb-false (k / 2 % 2) 1 f in let z : k / 2 % 2 ≡ 0 = omega arith in omega arith

pub gathered-all : (ks : List ℕ) (t : Tally) → t.set ≤ t.sum → Gathered t (tally_all t ks) ks
unfolding tally_all all_of count_if select all_differ
gathered-all [] t h = record {
  no_stray = sym (and-true (eqb t.stray 0));
  no-high = sym (and-true (ltb t.high (2 ^ 47)));
  occupied-is = omega arith;
  marked-is = omega arith;
  set_below = sym (and-true (ltb t.set (2 ^ 27)));
  differ = sym (and-true (eqb t.set t.sum && true) ∙ and-true (eqb t.set t.sum));
}
gathered-all (k ∷ ks) t h = pick (key_present k) refl (gathered-all ks)
  where
    pick : (p : Bool) → key_present k ≡ p → ((s : Tally) → s.set ≤ s.sum → Gathered s (tally_all s ks) ks)
        → Gathered t (tally_all (cond p (gathered t k) (strayed t k)) ks) (k ∷ ks)
    pick true e below = picture t (tally_all (gathered t k) ks) k ks e h (below (gathered t k) (let w = union-sum t.set (key_buffer k) in omega arith))
    pick false e below = none t (tally_all (strayed t k) ks) k ks e (below (strayed t k) h)

-- ---- the pass

-- The pass has come to place i: there is room in what was gathered, and with what is left it gives what all keys give.
pub record Passing (keys : List ℕ) (t : Tally) (i : ℕ) : Type 0 where
  pub few : t.occupied ≤ i
  pub few_marked : t.marked ≤ i
  pub low_sum : t.sum ≤ 4294967296 * i
  pub so_far : tally_all t (drop i keys) ≡ tally_all no_tally keys

module _ (keys : List ℕ) where
  pub passing-room : {t : Tally} {i : ℕ} → Passing keys t i → i ≤ slots → Roomy t
  passing-room p h =
      let f = p.few in
      let m = p.few_marked in
      let s = p.low_sum in
      record { few = omega arith; few_marked = omega arith; low_sum = omega arith }

  pub passing-turn : {t : Tally} {i : ℕ} (j : ℕ) (u : Tally) → Passing keys t i → i < length keys → u ≡ tallied t (get_or keys i 0) → j ≡ i + 1 → Passing keys u j
  unfolding tally_all
  passing-turn {t} {i} j u p h e g = rw (e, g) (turn (key_present k) (rw (drop-step 0 keys i h) at p.so_far))
    where
      k : ℕ
      k = get_or keys i 0

      low : 2 ^ key_buffer k ≤ 2 ^ 32
      low = pow_mono {i = key_buffer k} {j = 32} (omega arith)

      turn : (b : Bool) → tally_all (cond b (gathered t k) (strayed t k)) (drop (i + 1) keys) ≡ tally_all no_tally keys
          → Passing keys (cond b (gathered t k) (strayed t k)) (i + 1)
      turn true q =
          let l = low in
          let f = p.few in
          let m = p.few_marked in
          let s = p.low_sum in
          record { few = omega arith; few_marked = omega arith; low_sum = omega arith; so_far = q }
      turn false q =
          let f = p.few in
          let m = p.few_marked in
          let s = p.low_sum in
          record { few = omega arith; few_marked = omega arith; low_sum = omega arith; so_far = q }

  pub passing-end : {t : Tally} {i : ℕ} → Passing keys t i → length keys ≤ i → t ≡ tally_all no_tally keys
  unfolding tally_all
  passing-end p h = rw (drop_of_length-le keys h) at p.so_far

-- ---- a key, as the code goes

module _ (t : Tally) (k : ℕ) where
  pub absent : key_present k ≡ false → strayed t k ≡ tallied t k
  absent e = rw e refl

  pub there : (bit : ℕ) → key_present k ≡ true → bit ≡ 2 ^ key_buffer k
      → record {
        stray = t.stray;
        high = bit_or t.high k;
        occupied = t.occupied + 1;
        marked = t.marked + k / 2 % 2;
        set = bit_or t.set bit;
        sum = t.sum + bit;
      }
      ≡ tallied t k
  there bit e f = rw (e, f) refl
