-- A run that is told its input in pieces gives the answers to the whole.
-- Assumes nothing.
use Rattle.std.proofs.Common.{◌≡◌, ℕ, ◌<◌, List, [], ◌++◌, take, refl, sym, ap, ◌∙◌, arith, append_assoc}
use lib.Seq.{take-take}
use Rattle.run.specs.Partial.{kept_length}
use Rattle.run.specs.Run.{Runner, Fed, feed, finish}
use Rattle.run.proofs.Kept.{Alike, feed-alike, finish-alike}
use Rattle.run.proofs.Pieces.{feed-append}
use Rattle.service.specs.Calls.{RanAll, HearsCalls, EndsCalls, answers_from, piece_room}

pub heard-all : {s t : Fed} (piece : List ℕ) → HearsCalls s piece t → RanAll s.runner piece t.written t.runner
heard-all {s} piece h = record {
  machine = h.machine;
  line = ap (take kept_length) h.line ∙ take-take kept_length kept_length (feed s.runner piece).runner.line (omega arith);
  written = h.written;
}

-- Runs that keep the same of their line answer alike.
pub answers-alike : {r s : Runner} (rest : List ℕ) → Alike r s → answers_from r rest ≡ answers_from s rest
answers-alike rest a =
    let f = feed-alike rest a in
    let last = finish-alike f.runners in
    rw (f.written, last) refl

pub answers-on : (r : Runner) (piece rest : List ℕ) → answers_from r (piece ++ rest) ≡ (feed r piece).written ++ answers_from (feed r piece).runner rest
answers-on r piece rest =
    let f = feed r piece in
    let g = feed f.runner rest in
    ap (λ (x : Fed). x.written ++ (finish x.runner).written) (feed-append r piece rest)
    ∙ append_assoc f.written g.written (finish g.runner).written

pub calls-hear-on : (s t : Fed) (piece rest : List ℕ) → HearsCalls s piece t
    → (answers_from s.runner (piece ++ rest) ≡ t.written ++ answers_from t.runner rest) × (◌≡◌ {A = List ℕ} [] ([] ++ []))
calls-hear-on s t piece rest h =
    let same = answers-alike rest (record { machines = h.machine; lines = (heard-all piece h).line }) in
    (rw (h.written, same) (answers-on s.runner piece rest), refl)

pub calls-end-so : (s t : Fed) → EndsCalls s t → (answers_from s.runner [] ≡ t.written) × (◌≡◌ {A = List ℕ} [] [])
unfolding feed
calls-end-so s t h = (sym h.written, refl)

pub room-is-some : 0 < piece_room
room-is-some = omega arith
