-- From what a call makes of keys, rows and scalars to what a line leaves of the three slices.
-- Assumes nothing.
use Rattle.std.specs.Prelude.{Option, Some, None}
use mathlib.Core.Path.{◌≡◌, refl, sym, ap, ◌∙◌, subst}
use mathlib.Core.Bool.{true, false, true≢false}
use mathlib.Core.List.{List}
use Prim.Native.Nat.{ℕ}
use lib.ListN.{length}
use Rattle.def.specs.declared.EvcPoc.{EvcPoc}
use Rattle.keys.specs.declared.Rest.{Rest}
use Rattle.line.specs.declared.{Call.Call, Reply.Reply}
use Rattle.line.specs.Answers.{bad_line_reply}
use Rattle.registers.specs.Registers.{rest_of, poc_of}
use Rattle.machine.specs.declared.{Scalars.Scalars}
use Rattle.machine.specs.Step.{step, step_line}
use Rattle.machine.specs.Running.{machine_in, Makes, OtherRowsStay}
use Rattle.machine.specs.Claims.{TurnedDown}
use Rattle.running.specs.Slices.{Slices, slices, scalars_at, machine_at, sized, reply_to, CallLeaves, Leaves}

-- ---- a call on slices of the right sizes

pub scalars-are : {rest : Rest} {poc : EvcPoc} (registers : List ℕ) → rest ≡ rest_of registers → poc ≡ poc_of registers
    → record { rest = rest; poc = poc } ≡ scalars_at registers
scalars-are registers e f = rw (e, f)

module _ {reply : Reply} {after s : Scalars} (call : Call) {keys rows keys' rows' : List ℕ} (registers : List ℕ)
    (read : s ≡ scalars_at registers) (makes : Makes reply after s keys rows keys' rows' (step (machine_in keys rows s) call)) where
  abbrev before : Slices
  before = slices keys rows registers

  replies : reply ≡ (step (machine_at before) call).reply
  replies = rw read at makes.replies

  machine_is : machine_in keys' rows' after ≡ (step (machine_at before) call).machine
  machine_is = rw read at makes.machine_is

  -- one that is turned down, with the registers as they were
  pub call-refused : TurnedDown reply → CallLeaves reply call before (slices keys' rows' registers)
  call-refused t =
      let u = makes.refused_leaves t in
      record {
        replies = replies;
        machine_is = ap (machine_in keys' rows') (sym (u.same_scalars ∙ read)) ∙ machine_is;
        other_rows = makes.other_rows;
        refused_leaves = λ _. rw (u.same_keys, u.same_rows);
      }

  -- one that is made, with the scalars written
  pub call-made : {registers' : List ℕ} → (TurnedDown reply → ⊥)
      → rest_of registers' ≡ after.rest → poc_of registers' ≡ after.poc → CallLeaves reply call before (slices keys' rows' registers')
  call-made {registers'} n rest poc =
      let written : scalars_at registers' ≡ after = sym (scalars-are registers' (sym rest) (sym poc)) in
      record {
        replies = replies;
        machine_is = ap (machine_in keys' rows') written ∙ machine_is;
        other_rows = makes.other_rows;
        refused_leaves = λ t. absurd (n t);
      }

-- ---- any line on any slices

-- What `reply_on` promises.
abbrev pub Replied : Reply → Option Call → Slices → Slices → Type 0
Replied r line before after = (r ≡ reply_to before line) × Leaves line before after

-- nothing is written
pub same-leaves : (line : Option Call) (s : Slices) → (sized s ≡ true → machine_at s ≡ (step_line (machine_at s) line).machine) → Leaves line s s
same-leaves line s m = record {
  machine_is = m;
  other_rows = λ b kept no. refl;
  refused_leaves = λ _. refl;
  keys_long = refl;
  rows_long = refl;
  registers_long = refl;
}

pub wrong_size : (line : Option Call) (s : Slices) → sized s ≡ false → Replied bad_line_reply line s s
unfolding reply_to
wrong_size line s e = (rw e, same-leaves line s (λ t. absurd (true≢false (sym t ∙ e))))

pub bad-line : (s : Slices) → sized s ≡ true → Replied bad_line_reply None s s
unfolding reply_to
bad-line s e = (rw e, same-leaves None s (λ _. refl))

pub good-line : {r : Reply} {call : Call} (before after : Slices) → sized before ≡ true → CallLeaves r call before after
    → length after.keys ≡ length before.keys → length after.rows ≡ length before.rows → length after.registers ≡ length before.registers
    → Replied r (Some call) before after
unfolding reply_to
good-line {r} {call} before after e c keys rows registers =
    let is : r ≡ reply_to before (Some call) = rw e c.replies in (
      is,
      record {
        machine_is = λ _. c.machine_is;
        other_rows = subst (λ (t : Reply). OtherRowsStay t before.rows after.rows) is c.other_rows;
        refused_leaves = λ t. c.refused_leaves (rw is t);
        keys_long = keys;
        rows_long = rows;
        registers_long = registers;
      },
    )

-- by what the line is
pub by-line : {r : Reply} {line told : Option Call} {before after : Slices} → line ≡ told → Replied r told before after → Replied r line before after
by-line {r} {line} {told} {before} {after} e p = subst (λ (l : Option Call). Replied r l before after) (sym e) p
