-- What is gathered so far, with what is left, gives what all keys give.
use mathlib.Core.Path.{◌≡◌, refl, ◌∙◌}
use mathlib.Core.List.{List, []}
use Prim.Native.Nat.{ℕ, zero, suc, ◌+◌, ◌*◌, ◌/◌, ◌<◌}
use native.Mathlib.Omega.{arith}
use lib.ListN.{length, get_or, drop}
use lib.Seq.{get_or-take, get_or-drop}
use Rattle.std.specs.Simd.{first_chunks}
use Rattle.def.specs.State.{slots}
use Rattle.wholeness.specs.declared.tally.Tally.{Tally}
use Rattle.wholeness.specs.Tallies.{Roomy, tallied}
use Rattle.wholeness.proofs.TallyLaws.{Passing, passing-room, passing-turn, passing-end}
use Rattle.wholeness.proofs.tally.tally_all.Goals as goal

-- Three keys from place i on.

module _ (keys : List ℕ) {t : Tally} {i : ℕ} (p : Passing keys t i) (more : i + 2 < length keys) (long : length keys ≡ slots) where
  first : Passing keys (tallied t (get_or keys i 0)) (i + 1)
  first = passing-turn keys _ _ p (omega arith) refl refl

  second : Passing keys (tallied (tallied t (get_or keys i 0)) (get_or keys (i + 1) 0)) (i + 2)
  second = passing-turn keys _ _ first (omega arith) refl (omega arith)

  third : Passing keys (tallied (tallied (tallied t (get_or keys i 0)) (get_or keys (i + 1) 0)) (get_or keys (i + 2) 0)) (i + 3)
  third = passing-turn keys _ _ second (omega arith) refl (omega arith)

  room : Roomy t × Roomy (tallied t (get_or keys i 0)) × Roomy (tallied (tallied t (get_or keys i 0)) (get_or keys (i + 1) 0))
  room = (passing-room keys p (omega arith), passing-room keys first (omega arith), passing-room keys second (omega arith))

-- the chunks of three, by their places

chunk-at : (k j i : ℕ) (keys : List ℕ) → j < k → i < 3 → get_or (get_or (first_chunks 3 k keys) j []) i 0 ≡ get_or keys (3 * j + i) 0
chunk-at zero j i keys h l = absurd (omega arith)
chunk-at (suc k) zero i keys h l = let e : 3 * 0 + i ≡ i = omega arith in rw e (get_or-take 3 keys i 0 l)
chunk-at (suc k) (suc j) i keys h l =
    let e : 3 + (3 * j + i) ≡ 3 * suc j + i = omega arith in
    rw (← e) (chunk-at k j i (drop 3 keys) (omega arith) l ∙ get_or-drop 3 keys (3 * j + i) 0)

module _ (keys : List ℕ) {chunks : List (List ℕ)} (front : chunks ≡ first_chunks 3 (length keys / 3) keys) (long : length keys ≡ slots) (j : ℕ) (h : j < length chunks)
    (many : length chunks ≡ length keys / 3) where
  key-at : (i place : ℕ) → i < 3 → place ≡ 3 * j + i → get_or (get_or chunks j []) i 0 ≡ get_or keys place 0
  key-at i place l e = rw (front, e) (chunk-at (length keys / 3) j i keys (omega arith) l)

pub tally_three-t-requires : goal.tally_three-t-requires
tally_three-t-requires c =
    let l = c.loop-a in
    let e = c.as_chunks.ensures in
    let at = key-at c.args.keys.now e.front c.requires l.a-index c.loop-a-test.true e.front_len in
    rw (at 0 (3 * l.a-index) (omega arith) (omega arith), at 1 (3 * l.a-index + 1) (omega arith) refl)
    (room c.args.keys.now l.invariant (omega (arith, c.requires, e.front_len)) c.requires)

pub loop-a-preserved : goal.loop-a-preserved
loop-a-preserved c =
    let l = c.loop-a in
    let e = c.as_chunks.ensures in
    let at = key-at c.args.keys.now e.front c.requires l.a-index c.loop-a-test.true e.front_len in
    let next : 3 * l.a-index + 3 ≡ 3 * (l.a-index + 1) = omega arith in
    rw (
      c.tally_three-t.ensures,
      ← next,
      at 0 (3 * l.a-index) (omega arith) (omega arith),
      at 1 (3 * l.a-index + 1) (omega arith) refl,
      at 2 (3 * l.a-index + 2) (omega arith) refl,
    )
    (third c.args.keys.now l.invariant (omega (arith, c.requires, e.front_len)) c.requires)

pub returns : goal.returns
returns c =
    let l = c.loop-a in
    let e = c.as_chunks.ensures in
    (passing-end c.args.keys.now l.invariant (omega (arith, c.requires, e.front_len)), passing-room c.args.keys.now l.invariant (omega (arith, c.requires, e.front_len)))
