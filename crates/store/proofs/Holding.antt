-- Flags of the buffer numbers that keys hold: a loop that sets them, and the lowest that is not set is the smallest number that none holds.
-- Assumes nothing.
use mathlib.Core.Path.{◌≡◌, refl, sym, ap, ◌∙◌}
use mathlib.Core.Bool.{Bool, true, false, cond, not, ◌||◌, or-true, or-false}
use mathlib.Core.Bool as Bool
use mathlib.Core.List.{List, ◌∷◌, map}
use mathlib.Core.Logic.{◌⊎◌, inl, inr}
use Prim.Native.Nat.{ℕ, ◌+◌, ◌<◌, ◌≤◌}
use native.Mathlib.Omega.{arith}
use borrow.Author.Tests.{eqb-true, eqb-false, not-true, not-false}
use lib.Dec.{eqb}
use lib.ListN.{length, length-map, drop, get_or, set}
use lib.Seq.{get_or-set_same, get_or-set_other, set-get_or}
use Rattle.seq.specs.Lists.{any_of, select, lowest, smallest_not_in}
use Rattle.seq.proofs.Tests.{lt-or-ge, not-any, any-not, count-length, length-select}
use Rattle.seq.proofs.Smallest.{smallest, smallest-le}
use Rattle.seq.proofs.Walks.{lowest-passes, below-lowest, drop-step}
use Rattle.keys.specs.Keys.{key_present, key_buffer, key_buffers}
use Rattle.std.specs.Prelude.{Some, position}
use Rattle.std.proofs.lemmas.List.{map-id}
use Rattle.def.specs.State.{slots}
use Rattle.store.proofs.Finding.{place-through}
use Rattle.store.specs.FreeBuffer.{buffers, key_free, Held}

flag-set : (flags : List Bool) (n b : ℕ) (v : Bool) → n < length flags → get_or (set flags n v) b false ≡ cond (eqb b n) v (get_or flags b false)
flag-set flags n b v h = pick (eqb b n) refl
  where
    pick : (t : Bool) → eqb b n ≡ t → get_or (set flags n v) b false ≡ cond t v (get_or flags b false)
    pick true e = rw (eqb-true b n e) (get_or-set_same flags n v false h)
    pick false e = get_or-set_other flags n b v false (eqb-false b n e)

flags-or : (t x y r : Bool) → (cond t (x || true) y || r) ≡ (y || (t || r))
flags-or true x y r = rw (or-true x) (sym (or-true y))
flags-or false x y r = refl

-- The first key's buffer number is flagged if a picture is there, and the rest is left.
flag-cons : (k : ℕ) (ks : List ℕ) (flags : List Bool) (b : ℕ) → key_buffer k < length flags
    → (get_or (set flags (key_buffer k) (get_or flags (key_buffer k) false || key_present k)) b false || any_of (eqb b) (key_buffers ks))
    ≡ (get_or flags b false || any_of (eqb b) (key_buffers (k ∷ ks)))
unfolding any_of select
flag-cons k ks flags b l = pick (key_present k)
  where
    n : ℕ
    n = key_buffer k

    pick : (p : Bool) → (get_or (set flags n (get_or flags n false || p)) b false || any_of (eqb b) (key_buffers ks))
        ≡ (get_or flags b false || any_of (eqb b) (map key_buffer (cond p (k ∷ select key_present ks) (select key_present ks))))
    pick true =
        rw (flag-set flags n b (get_or flags n false || true) l)
        (flags-or (eqb b n) (get_or flags n false) (get_or flags b false) (any_of (eqb b) (key_buffers ks)))
    pick false = rw (or-false (get_or flags n false), set-get_or flags n false)

-- The same for the key at place i, whose buffer number is n.
pub flag-step : (keys : List ℕ) (flags : List Bool) (i n : ℕ) (p : Bool) (b : ℕ) → i < length keys → n ≡ key_buffer (get_or keys i 0)
    → p ≡ key_present (get_or keys i 0)
    → n < length flags
    → (get_or (set flags n (get_or flags n false || p)) b false || any_of (eqb b) (key_buffers (drop (i + 1) keys)))
    ≡ (get_or flags b false || any_of (eqb b) (key_buffers (drop i keys)))
flag-step keys flags i n p b h e f l =
    rw (drop-step 0 keys i h, e, f) (flag-cons (get_or keys i 0) (drop (i + 1) keys) flags b (rw e at l))

-- The smallest free buffer number is the lowest that is not flagged.
pub lowest-free : (ns : List ℕ) (flags : List Bool) → Held ns flags → length ns < buffers → lowest not flags ≡ smallest_not_in ns
lowest-free ns flags held h = pick (lt-or-ge (lowest not flags) (smallest_not_in ns)) (lt-or-ge (smallest_not_in ns) (lowest not flags))
  where
    n : ℕ
    n = smallest_not_in ns

    fits : n < buffers
    fits = let l = smallest-le ns in omega arith

    free : get_or flags n false ≡ false
    free = held.flag n fits ∙ not-any n ns (smallest ns).missing

    pick : (lowest not flags < n) ⊎ (n ≤ lowest not flags) → (n < lowest not flags) ⊎ (lowest not flags ≤ n) → lowest not flags ≡ n
    pick (inl l) o =
        let k = held.size in
        let f = fits in
        let t = not-true (get_or flags (lowest not flags) false) (lowest-passes false not flags (omega arith)) in
        absurd (any-not ns (sym (held.flag (lowest not flags) (omega arith)) ∙ t) ((smallest ns).smaller (lowest not flags) l))
    pick (inr g) (inl l) = absurd (Bool.false≢true (sym free ∙ not-false (get_or flags n false) (below-lowest false not flags n l)))
    pick (inr g) (inr l) = omega arith

-- At most 27 numbers are held, so the lowest that is not is the smallest of all.
pub place-free : (keys : List ℕ) (held : List Bool) → length keys ≡ slots → Held (key_buffers keys) held → position not held ≡ Some (key_free keys)
place-free keys held long h =
    let few : length (key_buffers keys) < buffers =
    omega (arith, length-map (select key_present keys) key_buffer, length-select key_present keys, count-length key_present keys) in
    let e = lowest-free (key_buffers keys) held h few in
    let l = smallest-le (key_buffers keys) in
    place-through (λ b. b) not not (λ b. refl) held (key_free keys) (omega (arith, h.size)) (ap (lowest not) (map-id held) ∙ e)
