-- A call from bytes: by its sizes, and by what the line makes of the slices.
-- Assumes nothing.
use Rattle.std.specs.Prelude.{Option, None}
use mathlib.Core.Path.{◌≡◌, refl, sym, ap, ◌∙◌, subst}
use mathlib.Core.Bool.{Bool, true, false, cond}
use mathlib.Core.List.{List}
use Prim.Native.Nat.{ℕ}
use lib.ListN.{length}
use borrow.Author.Tests.{eq-eqb, ne_eqb}
use Rattle.line.specs.declared.{Call.Call, Reply.Reply}
use Rattle.line.specs.Answers.{bad_line_reply}
use Rattle.line.specs.Calls.{call_from}
use Rattle.machine.specs.Step.{step_line}
use Rattle.running.specs.Slices.{Slices, sized, reply_to, Leaves}
use Rattle.wire.specs.Wire.{answer_length, answer_bytes, line_in, Wired}
use Rattle.running.proofs.Answering.{Replied, same-leaves, wrong_size}

bad-reply : (s : Slices) → reply_to s None ≡ bad_line_reply
unfolding reply_to
bad-reply s = go (sized s)
  where
    go : (b : Bool) → cond b bad_line_reply bad_line_reply ≡ bad_line_reply
    go true = refl
    go false = refl

bad-leaves : (s : Slices) → Leaves None s s
unfolding step_line
bad-leaves s = same-leaves None s (λ _. refl)

module _ (call answer : List ℕ) (before : Slices) where
  abbrev made : Option Call
  made = line_in call answer

  -- no room for the answer
  pub no_room : (length answer ≡ answer_length → ⊥) → Wired 18 call answer answer before before
  no_room n =
      let test = ne_eqb (length answer) answer_length n in
      let bad : made ≡ None = rw test in
      record {
        gives = sym (ap (λ (r : Reply). r.status) (ap (reply_to before) bad ∙ bad-reply before));
        writes = rw test;
        leaves = subst (λ (l : Option Call). Leaves l before before) (sym bad) (bad-leaves before);
      }

  pub wrong-sizes : length answer ≡ answer_length → sized before ≡ false → Wired 18 call answer answer before before
  wrong-sizes e f =
      let p = wrong_size made before f in
      record {
        gives = ap (λ (r : Reply). r.status) p.0;
        writes = rw (eq-eqb (length answer) answer_length e, f);
        leaves = p.1;
      }

  pub line_made : {r : Reply} {answer' : List ℕ} {after : Slices} → length answer ≡ answer_length → sized before ≡ true
      → Replied r (call_from call) before after → answer' ≡ answer_bytes r → Wired r.status call answer answer' before after
  line_made {r} {answer'} {after} e f p w =
      let test = eq-eqb (length answer) answer_length e in
      let is : made ≡ call_from call = rw test in
      record {
        gives = ap (λ (q : Reply). q.status) (p.0 ∙ ap (reply_to before) (sym is));
        writes = rw (test, f) (w ∙ ap answer_bytes p.0);
        leaves = subst (λ (l : Option Call). Leaves l before after) (sym is) p.1;
      }
