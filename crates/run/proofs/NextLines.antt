-- The next line of a piece: by a search, and as one that stands whole in the piece; and what a line does to a machine that runs.
-- Assumes nothing.
use Rattle.std.specs.Prelude.{Option, Some, None}
use Prim.Native.Nat.{ℕ, ◌+◌, ◌≤◌, ◌<◌}
use native.Mathlib.Omega.{arith}
use mathlib.Core.Path.{◌≡◌, refl, sym, ap, subst}
use mathlib.Core.Bool.{Bool, true, false, cond}
use mathlib.Core.List.{List, [], ◌++◌}
use lib.Dec.{ltb}
use lib.ListN.{length}
use borrow.Author.Tests.{ltb-true, ltb-false}
use Rattle.line.specs.declared.{Call.Call, Reply.Reply}
use Rattle.line.specs.Answers.{bad_line_reply}
use Rattle.line.specs.Calls.{read_line}
use Rattle.line.specs.Lines.{line_end, line_at, whole_line, call_at}
use Rattle.machine.specs.declared.Scalars.{Scalars}
use Rattle.machine.specs.Step.{step_line}
use Rattle.machine.specs.Running.{machine_in, Runs, Makes}
use Rattle.run.specs.Session.{next_at}

-- What a good line that was found whole says.
pub record Found (piece : List ℕ) (at : ℕ) (call : Call) (next : ℕ) : Type 0 where
  pub ends : ltb (line_end piece at) (length piece) ≡ true
  pub says : read_line (line_at piece at) ≡ Some call
  pub behind : next ≡ line_end piece at + 1

other-good : {A : Type 0} {a : A} → None ≡ Some a → ⊥
other-good e = let z : ◌≡◌ {A = ℕ} 0 1 = cc in omega arith

whole-good : (l : Option Call) (call : Call) (next end : ℕ) → whole_line l end ≡ Some (call, next) → (l ≡ Some call) × (next ≡ end)
whole-good (Some c) call next end e = (ap Some (same-call e), sym (same_next e))
  where
    call_of : Option (Call × ℕ) → Call
    call_of (Some (k, n)) = k
    call_of None = call

    next_of : Option (Call × ℕ) → ℕ
    next_of (Some (k, n)) = n
    next_of None = next

    same-call : ◌≡◌ {A = Option (Call × ℕ)} (Some (c, end)) (Some (call, next)) → c ≡ call
    same-call e = ap call_of e

    same_next : ◌≡◌ {A = Option (Call × ℕ)} (Some (c, end)) (Some (call, next)) → end ≡ next
    same_next e = ap next_of e
whole-good None call next end e = absurd (other-good e)

pub found : (piece : List ℕ) (at : ℕ) (call : Call) (next : ℕ) → call_at piece at ≡ Some (call, next) → Found piece at call next
unfolding call_at
found piece at call next e = pick (ltb (line_end piece at) (length piece)) refl e
  where
    pick : (b : Bool) → ltb (line_end piece at) (length piece) ≡ b
        → cond b (whole_line (read_line (line_at piece at)) (line_end piece at + 1)) None ≡ Some (call, next) → Found piece at call next
    pick true f e =
        let w = whole-good (read_line (line_at piece at)) call next (line_end piece at + 1) e in
        record { ends = f; says = w.0; behind = w.1 }
    pick false f e = absurd (other-good e)

pub next-found : (piece held : List ℕ) (at : ℕ) {call : Call} {next : ℕ} → call_at piece at ≡ Some (call, next) → held ≡ []
    → Some (Some call, next) ≡ next_at held piece at
next-found piece held at {call} {next} e none =
    let f = found piece at call next e in
    rw (none, f.ends, f.says, f.behind)

pair-is : {A B : Type 0} {a c : A} {b d : B} → ◌≡◌ {A = Option (A × B)} (Some (a, b)) (Some (c, d)) → (a ≡ c) × (b ≡ d)
pair-is {A} {B} {a} {c} {b} {d} e =
    let p : ◌≡◌ {A = A × B} (a, b) (c, d) = cc in
    (ap (λ (x : A × B). x.0) p, ap (λ (x : A × B). x.1) p)

-- What the next line says, and the place behind it.
pub record Next (held piece : List ℕ) (at : ℕ) (line : Option Call) (next : ℕ) : Type 0 where
  pub inside : line_end piece at < length piece
  pub says : line ≡ read_line (held ++ line_at piece at)
  pub behind : next ≡ line_end piece at + 1

pub next-is : (held piece : List ℕ) (at : ℕ) {line : Option Call} {next : ℕ} → next_at held piece at ≡ Some (line, next) → Next held piece at line next
next-is held piece at {line} {next} e = pick (ltb (line_end piece at) (length piece)) refl e
  where
    pick : (b : Bool) → ltb (line_end piece at) (length piece) ≡ b
        → ◌≡◌ {A = Option (Option Call × ℕ)} (cond b (Some (read_line (held ++ line_at piece at), line_end piece at + 1)) None) (Some (line, next)) → Next held piece at line next
    pick true f g =
        let p = pair-is g in
        record { inside = ltb-true (line_end piece at) (length piece) f; says = sym p.0; behind = sym p.1 }
    pick false f g = absurd (other-good g)

pub next-none : (held piece : List ℕ) (at : ℕ) → next_at held piece at ≡ None → length piece ≤ line_end piece at
next-none held piece at e = pick (ltb (line_end piece at) (length piece)) refl e
  where
    pick : (b : Bool) → ltb (line_end piece at) (length piece) ≡ b
        → ◌≡◌ {A = Option (Option Call × ℕ)} (cond b (Some (read_line (held ++ line_at piece at), line_end piece at + 1)) None) None → length piece ≤ line_end piece at
    pick true f g = absurd (other-good (sym g))
    pick false f g = ltb-false (line_end piece at) (length piece) f

pub by-line : {r : Reply} {after s : Scalars} {keys rows keys' rows' : List ℕ} {l k : Option Call} → l ≡ k
    → Makes r after s keys rows keys' rows' (step_line (machine_in keys rows s) k) → Makes r after s keys rows keys' rows' (step_line (machine_in keys rows s) l)
by-line {r} {after} {s} {keys} {rows} {keys'} {rows'} e c = subst (λ (x : Option Call). Makes r after s keys rows keys' rows' (step_line (machine_in keys rows s) x)) (sym e) c

pub bad-makes : {keys rows : List ℕ} {s : Scalars} (r : Reply) → Runs keys rows s → r ≡ bad_line_reply
    → Makes r s s keys rows keys rows (step_line (machine_in keys rows s) None)
unfolding step_line
bad-makes r runs e = rw e (record {
  replies = refl;
  machine_is = refl;
  other_rows = λ b kept no. refl;
  still_sized = runs.sized;
  refused_leaves = λ t. record { same_keys = refl; same_rows = refl; same_scalars = refl };
})
