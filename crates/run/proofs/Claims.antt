-- What a run writes is what the program writes, and its state stays whole.
-- Assumes nothing.
use Prim.Native.Nat.{ℕ}
use mathlib.Core.Path.{◌≡◌, refl, sym, ap, ◌∙◌}
use mathlib.Core.Bool.{Bool, true, false, cond}
use mathlib.Core.List.{List, [], ◌∷◌, ◌++◌, append_assoc}
use lib.ListN.{length, take}
use lib.Seq.{take-append_seam, take-take}
use native.Mathlib.Omega.{arith}
use Rattle.line.specs.Calls.{read_line}
use Rattle.line.specs.Lines.{is_newline}
use Rattle.machine.specs.Claims.{Sound}
use Rattle.machine.proofs.EveryCall.{line-sound, new-sound, line-not-seven}
use Rattle.run.specs.declared.Session.{Session}
use Rattle.run.specs.Run.{Runner, Fed, end_line, extend_line, feed_byte, feed, feed_pieces, finish, start}
use Rattle.run.specs.Session.{runner_in, NewSession, new_keys, new_rows}
use Rattle.run.specs.Claims.{Over, at_end, after_piece, RunWrites, RunSound, RunNotSeven}
use Rattle.run.specs.Partial.{kept_length}
use Rattle.run.proofs.Kept.{Alike, feed-alike, finish-alike}
use Rattle.run.proofs.Pieces.{pieces-agree}
use Rattle.machine.specs.Running.{machine_in}
use Rattle.machine.proofs.Running.{new-machine}

-- the bytes that a call wrote
pub front : (out w rest : List ℕ) (n : ℕ) → out ≡ w ++ rest → n ≡ length w → take n out ≡ w
front out w rest n e l = rw (l, e) (take-append_seam w rest)

-- From any run that keeps the same of its line as the session does.
over-writes : {keys rows written : List ℕ} {s : Session} {pieces : List (List ℕ)} → Over keys rows s pieces written
    → (r : Runner) → Alike (runner_in keys rows s) r → written ≡ (feed_pieces r pieces).written ++ (finish (feed_pieces r pieces).runner).written
unfolding feed_pieces
over-writes (at_end {out' = out'} {len = n} e) r a = front out' _ _ n e.written e.length_is ∙ ap (λ (f : Fed). f.written) (finish-alike a)
over-writes {keys} {rows} {s = s} (after_piece {piece = piece} {pieces} {out' = out'} {rest} {len = len} e more) r a =
    let n = feed-alike piece a in
    let wrote : take len out' ≡ (feed r piece).written = front out' _ _ len e.written e.length_is ∙ n.written in
    let next : Alike _ (feed r piece).runner = record {
      machines = e.machine ∙ n.runners.machines;
      lines =
          ap (take kept_length) e.line
          ∙ take-take kept_length kept_length (feed (runner_in keys rows s) piece).runner.line (omega arith)
          ∙ n.runners.lines;
    } in
    let later = over-writes more (feed r piece).runner next in
    rw (wrote, later)
    (sym (append_assoc (feed r piece).written (feed_pieces (feed r piece).runner pieces).written (finish (feed_pieces (feed r piece).runner pieces).runner).written))

pub new-alike : (s : Session) → NewSession s → Alike (runner_in new_keys new_rows s) start
new-alike s new = record {
  machines = ap (machine_in new_keys new_rows) new.new_scalars ∙ new-machine new_rows refl;
  lines = ap (take kept_length) new.no_line;
}

pub run-writes : RunWrites
run-writes s pieces written new o = over-writes o start (new-alike s new) ∙ pieces-agree pieces

-- ---- the state of a run

byte-sound : (r : Runner) (c : ℕ) → Sound r.machine → (b : Bool) → Sound (cond b (end_line r) (extend_line r c)).runner.machine
byte-sound r c s true = line-sound r.machine (read_line r.line) s
byte-sound r c s false = s

feed-sound : (r : Runner) (cs : List ℕ) → Sound r.machine → Sound (feed r cs).runner.machine
unfolding feed
feed-sound r [] s = s
feed-sound r (c ∷ cs) s = feed-sound (feed_byte r c).runner cs (byte-sound r c s (is_newline c))

pub run-sound : RunSound
run-sound input = feed-sound start input new-sound

pub run-not-seven : RunNotSeven
run-not-seven input line e = line-not-seven _ (read_line line) (run-sound input) e
