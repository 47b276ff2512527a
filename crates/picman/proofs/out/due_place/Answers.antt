use Rattle.std.proofs.Common.{◌≡◌, ◌≤◌, ◌+◌, ◌∙◌, sym, refl, arith, ℕ, List, Bool, true, false, length, drop, get_or}
use mathlib.Core.Bool.{◌||◌, and-false, or-false}
use borrow.Author.Tests.{le-leb, lt-leb}
use Rattle.seq.specs.Lists.{any_of, lowest}
use Rattle.seq.proofs.Walks.{lowest-hit, lowest-miss, lowest-end, any_step, any-end}
use Rattle.store.proofs.Finding.{place-here, no-place}
use Rattle.keys.specs.Keys.{key_wanted, key_number}
use Rattle.picman.specs.OnKeys.{key_due}
use Rattle.picman.proofs.out.due_place.Goals as goal
use Rattle.picman.proofs.out.due_place.Goals.{then-is_wanted+else-keys-i, else-is_wanted}

-- A picture that is wanted is due exactly if its number is at most the next one.

due : (next k : ℕ) → key_wanted k ≡ true → key_number k ≤ next → key_due next k ≡ true
due next k w h = rw (w, le-leb (key_number k) next h) refl

not_yet : (next k : ℕ) → next + 1 ≤ key_number k → key_due next k ≡ false
not_yet next k h = rw (lt-leb (key_number k) next (omega (arith, h))) (and-false (key_wanted k))

unwanted : (next k : ℕ) → key_wanted k ≡ false → key_due next k ≡ false
unwanted next k w = rw w refl

any-hit : (w r : Bool) → (w || true || r) ≡ true
any-hit true r = refl
any-hit false r = refl

pub returns-then-keys-i : goal.returns-then-keys-i
returns-then-keys-i c =
    let a = c.args in
    let l = c.loop-i in
    let hit = due a.poc_next_output (get_or a.keys.now l.i 0) (sym c.is_wanted.ensures ∙ c.if-is_wanted.true) c.if-keys-i.true in
    let at = sym l.invariant.0 ∙ lowest-hit 0 (key_due a.poc_next_output) a.keys.now l.i (omega (arith, c.requires)) hit in
    rw (place-here (key_due a.poc_next_output) a.keys.now l.i (omega (arith, c.requires)) at) refl

pub loop-i-preserved : goal.loop-i-preserved
loop-i-preserved c =
    let a = c.args in
    let l = c.loop-i in
    elim c.if-is_wanted.branch [
      | then-is_wanted+else-keys-i w ↦ (
        lowest-miss 0 (key_due a.poc_next_output) a.keys.now l.i (omega (arith, c.requires))
            (not_yet a.poc_next_output (get_or a.keys.now l.i 0) (omega (arith, w.if-keys-i.false)))
            ∙ l.invariant.0,
        rw w.wanted-is
            (sym (any-hit l.wanted (any_of key_wanted (drop (l.i + 1) a.keys.now)))
            ∙ rw (sym w.if-is_wanted.true ∙ c.is_wanted.ensures) (any_step 0 key_wanted a.keys.now l.i l.wanted (omega (arith, c.requires)))
            ∙ l.invariant.1),
      )
      | else-is_wanted w ↦
          let miss = sym c.is_wanted.ensures ∙ w.if-is_wanted.false in (
            lowest-miss 0 (key_due a.poc_next_output) a.keys.now l.i (omega (arith, c.requires)) (unwanted a.poc_next_output (get_or a.keys.now l.i 0) miss)
                ∙ l.invariant.0,
            rw w.wanted-is (rw (miss, or-false l.wanted) at (any_step 0 key_wanted a.keys.now l.i l.wanted (omega (arith, c.requires))) ∙ l.invariant.1),
          )
    ]

none : (next : ℕ) (keys : List ℕ) (i : ℕ) → length keys ≤ i → i + lowest (key_due next) (drop i keys) ≡ lowest (key_due next) keys
    → length keys ≤ lowest (key_due next) keys
none next keys i h e = omega (arith, lowest-end 0 (key_due next) keys i h)

pub returns-then-wanted : goal.returns-then-wanted
returns-then-wanted c =
    let a = c.args in
    let l = c.loop-i in
    let over : length a.keys.now ≤ l.i = omega (arith, c.requires) in
    rw (
      no-place (key_due a.poc_next_output) a.keys.now (none a.poc_next_output a.keys.now l.i over l.invariant.0),
      ← l.invariant.1,
      any-end 0 key_wanted a.keys.now l.i l.wanted over,
      c.if-wanted.true,
    )
    refl

pub returns-else-wanted : goal.returns-else-wanted
returns-else-wanted c =
    let a = c.args in
    let l = c.loop-i in
    let over : length a.keys.now ≤ l.i = omega (arith, c.requires) in
    rw (
      no-place (key_due a.poc_next_output) a.keys.now (none a.poc_next_output a.keys.now l.i over l.invariant.0),
      ← l.invariant.1,
      any-end 0 key_wanted a.keys.now l.i l.wanted over,
      c.if-wanted.false,
    )
    refl
