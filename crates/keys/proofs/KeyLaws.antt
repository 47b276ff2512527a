-- What is done to keys is done to the slots that they stand for; a row that no key sees may change; keys that are made are read back.
-- Assumes nothing.
use mathlib.Core.Path.{◌≡◌, refl, sym, ap, ◌∙◌, subst}
use mathlib.Core.Bool.{Bool, true, false, cond}
use mathlib.Core.Bool as Bool
use mathlib.Core.List.{List, [], ◌∷◌, map, Memᴰ}
use Prim.Native.Nat.{ℕ, ◌+◌, ◌-◌, ◌*◌, ◌/◌, ◌%◌, ◌<◌, ◌≤◌}
use native.Mathlib.Nat.{div-div-eq-div-mul}
use native.Mathlib.Omega.{arith}
use mir.Val.{bool_byte}
use lib.Dec.{eqb}
use lib.ListN.{replicate}
use Rattle.seq.specs.Lists.{select}
use Rattle.seq.proofs.Maps.{map-select, map-map}
use Rattle.def.specs.State.{new_pic, occupied_by, unmarked, handed_over, is_present, buffer_of}
use Rattle.keys.specs.Keys.{key_present, key_buffer, key_unmarked, key_handed_over, key_made, row_at, slot_at}

-- ---- a key that loses a flag

-- Two keys that agree above their lowest bits agree in all that stands there.
above : (m k c d : ℕ) → m / c ≡ k / c → m / (c * d) ≡ k / (c * d)
above m k c d e = sym (div-div-eq-div-mul m c d) ∙ ap (λ (n : ℕ). n / d) e ∙ div-div-eq-div-mul k c d

pub slot-unmarked : (rows : List ℕ) (k : ℕ) → slot_at rows (key_unmarked k) ≡ unmarked (slot_at rows k)
slot-unmarked rows k =
    let q : ℕ = k / 2 / 2 in
    let whole : k ≡ 4 * q + 2 * (k / 2 % 2) + k % 2 = omega arith in
    let bare : key_unmarked k ≡ 4 * q + k % 2 = omega arith in
    let a : key_unmarked k % 2 ≡ k % 2 = omega arith in
    let half : key_unmarked k / 2 ≡ 2 * q = omega arith in
    let b : key_unmarked k / 2 % 2 ≡ 0 = rw half (omega arith) in
    let quarter : key_unmarked k / 4 ≡ k / 4 = omega arith in
    let d : key_unmarked k / 8 ≡ k / 8 = above (key_unmarked k) k 4 2 quarter in
    let e : key_unmarked k / 256 ≡ k / 256 = above (key_unmarked k) k 4 64 quarter in
    let f : key_unmarked k / 65536 ≡ k / 65536 = above (key_unmarked k) k 4 16384 quarter in
    rw (a, b, quarter, d, e, f) refl

-- a key by its three lowest bits, the lowest two together
low_bits : (q w r k : ℕ) → w < 2 → r < 4 → k ≡ 8 * q + 4 * w + r → (k % 2 ≡ r % 2) × (k / 2 % 2 ≡ r / 2) × (k / 4 % 2 ≡ w) × (k / 8 ≡ q)
low_bits q w r k hw hr e =
    let half : k / 2 ≡ 2 * (2 * q + w) + r / 2 = omega arith in
    let quarter : k / 4 ≡ 2 * q + w = omega arith in
    (omega arith, rw half (omega arith), rw quarter (omega arith), omega arith)

split-bits : (k : ℕ) → k ≡ 8 * (k / 8) + 4 * (k / 4 % 2) + k % 4
split-bits k =
    let z : k / 4 / 2 ≡ k / 8 = div-div-eq-div-mul k 4 2 in
    let a : k ≡ 4 * (k / 4) + k % 4 = omega arith in
    let b : k / 4 ≡ 2 * (k / 4 / 2) + k / 4 % 2 = omega arith in
    sum (k / 8) (k / 4) (k / 4 % 2) (k % 4) k a (b ∙ ap (λ (n : ℕ). 2 * n + k / 4 % 2) z)
  where
    sum : (q p w r k : ℕ) → k ≡ 4 * p + r → p ≡ 2 * q + w → k ≡ 8 * q + 4 * w + r
    sum q p w r k e f = omega arith

pub slot-handed-over : (rows : List ℕ) (k : ℕ) → slot_at rows (key_handed_over k) ≡ handed_over (slot_at rows k)
slot-handed-over rows k =
    let m : ℕ = key_handed_over k in
    let s = split-bits k in
    let low = low_bits (k / 8) (k / 4 % 2) (k % 4) k (omega arith) (omega arith) s in
    let bare : m ≡ 8 * (k / 8) + 4 * 0 + k % 4 = without (k / 8) (k / 4 % 2) (k % 4) k s in
    let new = low_bits (k / 8) 0 (k % 4) m (omega arith) (omega arith) bare in
    let e : m / 256 ≡ k / 256 = above m k 8 32 new.3 in
    let f : m / 65536 ≡ k / 65536 = above m k 8 8192 new.3 in
    rw (new.0 ∙ sym low.0, new.1 ∙ sym low.1, new.2, new.3, e, f) refl
  where
    without : (q w r k : ℕ) → k ≡ 8 * q + 4 * w + r → k - w * 4 ≡ 8 * q + 4 * 0 + r
    without q w r k e = omega arith

-- ---- a key that is made

-- What is read back from a key.
pub record Read (k poc layer b : ℕ) (wanted ref : Bool) : Type 0 where
  pub here : k % 2 ≡ 1
  pub marks : k / 2 % 2 ≡ bool_byte ref
  pub wants : k / 4 % 2 ≡ bool_byte wanted
  pub buffer : k / 8 % 32 ≡ b
  pub layers : k / 256 % 256 ≡ layer
  pub number : k / 65536 ≡ poc

upper : (poc layer b low : ℕ) → layer < 256 → b < 32 → low < 8 → (k : ℕ) → k ≡ ((poc * 256 + layer) * 32 + b) * 8 + low
    → (k / 8 % 32 ≡ b) × (k / 256 % 256 ≡ layer) × (k / 65536 ≡ poc)
upper poc layer b low hl hb h k e =
    let eighth : k / 8 ≡ (poc * 256 + layer) * 32 + b = omega arith in
    let more : k / 256 ≡ poc * 256 + layer = sym (div-div-eq-div-mul k 8 32) ∙ ap (λ (n : ℕ). n / 32) eighth ∙ omega arith in
    let most : k / 65536 ≡ poc = sym (div-div-eq-div-mul k 256 256) ∙ ap (λ (n : ℕ). n / 256) more ∙ omega arith in
    (rw eighth (omega arith), rw more (omega arith), most)

lower : (q : ℕ) (wanted ref : Bool) (k : ℕ) → k ≡ q * 8 + (bool_byte wanted * 4 + bool_byte ref * 2 + 1)
    → (k % 2 ≡ 1) × (k / 2 % 2 ≡ bool_byte ref) × (k / 4 % 2 ≡ bool_byte wanted)
lower q true true k e =
    let h : k / 2 ≡ 2 * (2 * q + 1) + 1 = omega arith in
    let g : k / 4 ≡ 2 * q + 1 = omega arith in
    (omega arith, rw h (omega arith), rw g (omega arith))
lower q true false k e =
    let h : k / 2 ≡ 2 * (2 * q + 1) = omega arith in
    let g : k / 4 ≡ 2 * q + 1 = omega arith in
    (omega arith, rw h (omega arith), rw g (omega arith))
lower q false true k e =
    let h : k / 2 ≡ 2 * (2 * q) + 1 = omega arith in
    let g : k / 4 ≡ 2 * q = omega arith in
    (omega arith, rw h (omega arith), rw g (omega arith))
lower q false false k e =
    let h : k / 2 ≡ 2 * (2 * q) = omega arith in
    let g : k / 4 ≡ 2 * q = omega arith in
    (omega arith, rw h (omega arith), rw g (omega arith))

pub small : (t : Bool) → bool_byte t ≤ 1
small true = omega arith
small false = omega arith

pub made-read : (poc layer b : ℕ) (wanted ref : Bool) → layer < 256 → b < 32 → Read (key_made poc layer b wanted ref) poc layer b wanted ref
made-read poc layer b wanted ref hl hb =
    let k : ℕ = key_made poc layer b wanted ref in
    let low : ℕ = bool_byte wanted * 4 + bool_byte ref * 2 + 1 in
    let s = small wanted in
    let t = small ref in
    let e : k ≡ ((poc * 256 + layer) * 32 + b) * 8 + low = omega arith in
    let u = upper poc layer b low hl hb (omega arith) k e in
    let l = lower ((poc * 256 + layer) * 32 + b) wanted ref k e in
    record { here = l.0; marks = l.1; wants = l.2; buffer = u.0; layers = u.1; number = u.2 }

pub bit : (t : Bool) → eqb (bool_byte t) 1 ≡ t
bit true = refl
bit false = refl

-- The slot that a made key stands for.
pub slot-made : (rows : List ℕ) (poc layer b : ℕ) (wanted ref : Bool) → layer < 256 → b < 32
    → slot_at rows (key_made poc layer b wanted ref)
    ≡ occupied_by (record { poc = poc; is_ref = ref; need_for_out = wanted; temporal_id = layer; list_poc = row_at rows b }) b
slot-made rows poc layer b wanted ref hl hb =
    let r = made-read poc layer b wanted ref hl hb in
    rw (r.here, r.marks, r.wants, r.buffer, r.layers, r.number, bit ref, bit wanted) refl

-- A new picture's key.
pub slot-new : (rows : List ℕ) (b : ℕ) → b < 32 → row_at rows b ≡ replicate 21 0 → slot_at rows (b * 8 + 1) ≡ occupied_by new_pic b
slot-new rows b h r =
    let k : ℕ = b * 8 + 1 in
    let a : k % 2 ≡ 1 = omega arith in
    let half : k / 2 ≡ 2 * (2 * b) = omega arith in
    let c : k / 2 % 2 ≡ 0 = rw half (omega arith) in
    let quarter : k / 4 ≡ 2 * b = omega arith in
    let d : k / 4 % 2 ≡ 0 = rw quarter (omega arith) in
    let eighth : k / 8 ≡ b = omega arith in
    let e : k / 8 % 32 ≡ b = rw eighth (omega arith) in
    let f : k / 256 ≡ 0 = omega arith in
    let g : k / 65536 ≡ 0 = omega arith in
    rw (a, c, d, e, f, g, r) refl

-- ---- rows that no key sees

module _ (rows after : List ℕ) where
  slot-stays : (k : ℕ) → (key_present k ≡ true → row_at after (key_buffer k) ≡ row_at rows (key_buffer k)) → slot_at after k ≡ slot_at rows k
  slot-stays k h = rw (numbers (key_present k) refl) refl
    where
      numbers : (t : Bool) → key_present k ≡ t
          → cond t (row_at after (key_buffer k)) (replicate 21 0) ≡ cond t (row_at rows (key_buffer k)) (replicate 21 0)
      numbers true e = h e
      numbers false e = refl

  -- Where the rows of the buffers that keys hold stay, their slots do.
  pub slots-stay : (keys : List ℕ) → ((c : ℕ) → Memᴰ c (map key_buffer (select key_present keys)) → row_at after c ≡ row_at rows c)
      → map (slot_at after) keys ≡ map (slot_at rows) keys
  unfolding select
  slots-stay [] h = refl
  slots-stay (k ∷ keys) h =
      rw (slot-stays k (λ p. here (key_present k) p h), slots-stay keys (λ c m. there (key_present k) c m h)) refl
    where
      rest : List ℕ
      rest = select key_present keys

      here : (t : Bool) → t ≡ true
          → ((c : ℕ) → Memᴰ c (map key_buffer (cond t (k ∷ rest) rest)) → row_at after c ≡ row_at rows c)
          → row_at after (key_buffer k) ≡ row_at rows (key_buffer k)
      here true e h = h (key_buffer k) (Memᴰ.head refl)
      here false e h = absurd (Bool.false≢true e)

      there : (t : Bool) (c : ℕ) → Memᴰ c (map key_buffer rest)
          → ((c : ℕ) → Memᴰ c (map key_buffer (cond t (k ∷ rest) rest)) → row_at after c ≡ row_at rows c)
          → row_at after c ≡ row_at rows c
      there true c m h = h c (Memᴰ.tail m)
      there false c m h = h c m

  -- Only the row of a buffer that they do not hold has changed.
  module _ (b : ℕ) (others : (c : ℕ) → (c ≡ b → ⊥) → row_at after c ≡ row_at rows c) where
    pub slot-unseen : (k : ℕ) → (key_present k ≡ true → key_buffer k ≡ b → ⊥) → slot_at after k ≡ slot_at rows k
    slot-unseen k h = slot-stays k (λ p. others (key_buffer k) (h p))

    pub slots-unseen : (keys : List ℕ) → (Memᴰ b (map key_buffer (select key_present keys)) → ⊥)
        → map (slot_at after) keys ≡ map (slot_at rows) keys
    slots-unseen keys h = slots-stay keys (λ c m. others c (λ e. h (subst (λ (n : ℕ). Memᴰ n (map key_buffer (select key_present keys))) e m)))

-- The buffer numbers that keys hold are those of their slots.
pub buffers-same : (rows keys : List ℕ) → map buffer_of (select is_present (map (slot_at rows) keys)) ≡ map key_buffer (select key_present keys)
buffers-same rows keys = ap (map buffer_of) (map-select (slot_at rows) is_present keys) ∙ map-map buffer_of (slot_at rows) (select key_present keys)
