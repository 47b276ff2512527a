-- What holds from line to line while a piece is run: the answers so far stand at the front of the output, which is as it was behind them,
-- and the run goes on from the machine and the line that it has come to.
-- Assumes nothing.
use Rattle.std.specs.Prelude.{Option}
use Prim.Native.Nat.{ℕ, suc, ◌+◌, ◌*◌, ◌≤◌, ◌<◌}
use native.Mathlib.Omega.{arith}
use mathlib.Core.Path.{◌≡◌, refl, sym, ap, ◌∙◌}
use mathlib.Core.List.{List, [], ◌++◌, append-nil, append_assoc}
use lib.ListN.{length, take, drop, length-drop, take-append-drop}
use lib.Seq.{take_all, drop-drop, drop-paste, length-take-le, paste, take-paste, length-paste}
use Rattle.seq.specs.Lists.{lowest}
use Rattle.line.specs.declared.Call.{Call}
use Rattle.line.specs.declared.Reply.{Reply}
use Rattle.hex_digits.specs.Hex.{digits_of}
use Rattle.line.specs.Calls.{read_line}
use Rattle.line.specs.Lines.{is_newline, line_end, line_at}
use Rattle.line.specs.Answers.{answer_digits, answer_line}
use Rattle.machine.specs.declared.{Machine.Machine, Stepped.Stepped}
use Rattle.machine.specs.Step.{stepped, step_line}
use Rattle.run.specs.Run.{Runner, Fed, after, feed}
use Rattle.run.specs.Session.{answer_size}
use Rattle.run.proofs.Feeding.{runner_of, ended, feed-line, feed-rest}

pub answer-size : (r : Reply) → length (answer_line r) ≡ answer_size
unfolding answer_line answer_digits digits_of
answer-size r = refl

-- The piece has been read up to `at`, and `len` characters of `out` are written.
pub record Going (from : Runner) (piece before : List ℕ) (m : Machine) (line : List ℕ) (at len : ℕ) (out : List ℕ) : Type 0 where
  pub at-fits : at ≤ length piece
  pub len-fits : len ≤ answer_size * at
  pub room : answer_size * length piece ≤ length before
  pub out-size : length out ≡ length before
  pub behind : drop len out ≡ drop len before
  pub rest : feed from piece ≡ after (take len out) (feed (runner_of m line) (drop at piece))

pub begin : (m : Machine) (line piece out : List ℕ) → answer_size * length piece ≤ length out → Going (runner_of m line) piece out m line 0 0 out
begin m line piece out r =
    record { at-fits = omega arith; len-fits = omega arith; room = r; out-size = refl; behind = refl; rest = refl }

after-after : (x y : List ℕ) (f : Fed) → after x (after y f) ≡ after (x ++ y) f
after-after x y f = rw (append_assoc x y f.written) refl

-- From line to line: the line that ends at the next newline is read, one call is made, and its answer stands behind the others.
module _ {from : Runner} {piece before : List ℕ} {m : Machine} {line : List ℕ} {at len : ℕ} {out : List ℕ}
    (g : Going from piece before m line at len out) (found : line_end piece at < length piece) where
  abbrev k : ℕ
  k = lowest is_newline (drop at piece)

  pub fits : len + answer_size ≤ length out
  fits = omega (arith, g.len-fits, g.out-size, g.room)

  goes_on : (l : Option Call) → l ≡ read_line (line ++ line_at piece at) → (r : Reply) (n : Machine) → step_line m l ≡ stepped r n
      → feed (runner_of m line) (drop at piece) ≡ after (answer_line r) (feed (runner_of n []) (drop (line_end piece at + 1) piece))
  goes_on l e r n s =
      let h : k < length (drop at piece) = omega (arith, length-drop at piece) in
      let d : at + suc k ≡ line_end piece at + 1 = omega arith in
      feed-line m line (drop at piece) h
      ∙ ap (λ (t : List ℕ). ended m (line ++ take k (drop at piece)) t) (drop-drop (suc k) at piece ∙ ap (λ (i : ℕ). drop i piece) d)
      ∙ ap (λ (x : Stepped). after (answer_line x.reply) (feed (runner_of x.machine []) (drop (line_end piece at + 1) piece)))
      (ap (step_line m) (sym e) ∙ s)

  -- a turn, by the values that the code has
  pub turned : (l : Option Call) → l ≡ read_line (line ++ line_at piece at) → (r : Reply) (n : Machine) → step_line m l ≡ stepped r n
      → (empty : List ℕ) → empty ≡ [] → (next : ℕ) → next ≡ line_end piece at + 1 → (end : ℕ) → end ≡ len + answer_size
      → (more : List ℕ) → more ≡ paste out len (answer_line r) answer_size → Going from piece before n empty next end more
  turned l e r n s empty none next p end q more w =
      let a = answer-size r in
      let f = fits in
      let text : take (len + answer_size) more ≡ take len out ++ answer_line r =
      ap (take (len + answer_size)) w
      ∙ take-paste out len (answer_line r) answer_size (omega arith) (omega arith)
      ∙ ap (λ (t : List ℕ). take len out ++ t) (take_all answer_size (answer_line r) (omega arith)) in
      let tail : drop (len + answer_size) more ≡ drop (len + answer_size) before =
      ap (drop (len + answer_size)) w
      ∙ drop-paste out len (answer_line r) answer_size (omega arith) (omega arith)
      ∙ sym (drop-drop answer_size len out ∙ refl)
      ∙ ap (drop answer_size) g.behind
      ∙ drop-drop answer_size len before in
      rw (p, q) (record {
        at-fits = omega arith;
        len-fits = omega (arith, g.len-fits);
        room = g.room;
        out-size = ap length w ∙ length-paste out len (answer_line r) answer_size f (omega arith) ∙ g.out-size;
        behind = tail;
        rest =
            g.rest
            ∙ ap (after (take len out)) (goes_on l e r n s)
            ∙ after-after (take len out) (answer_line r) (feed (runner_of n []) (drop (line_end piece at + 1) piece))
            ∙ rw (text, none);
      })

-- At the end of the piece: what is left of it extends the line.
module _ {from : Runner} {piece before : List ℕ} {m : Machine} {line : List ℕ} {at len : ℕ} {out : List ℕ}
    (g : Going from piece before m line at len out) (none : length piece ≤ line_end piece at) where
  pub stopped-there : feed from piece ≡ record { runner = runner_of m (line ++ drop at piece); written = take len out }
  stopped-there =
      let f = g.at-fits in
      g.rest
      ∙ ap (after (take len out)) (feed-rest m line (drop at piece) (omega (arith, length-drop at piece)))
      ∙ ap (λ (w : List ℕ). record { runner = runner_of m (line ++ drop at piece); written = w }) (append-nil (take len out))

  pub all-written : out ≡ (feed from piece).written ++ drop len before
  all-written =
      sym (take-append-drop len out)
      ∙ ap (λ (t : List ℕ). take len out ++ t) g.behind
      ∙ ap (λ (f : Fed). f.written ++ drop len before) (sym stopped-there)

  pub written-length : len ≡ length (feed from piece).written
  written-length =
      let l = g.len-fits in
      let a = g.at-fits in
      let r = g.room in
      let o = g.out-size in
      sym (length-take-le len out (omega arith)) ∙ ap (λ (f : Fed). length f.written) (sym stopped-there)
