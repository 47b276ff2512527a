-- What the turns come to, and what the loop gives to be written.
-- Assumes nothing.
use Rattle.std.proofs.Common.{◌≡◌, ℕ, true, Bool, List, [], ◌++◌, take, refl, sym, ap, ◌∙◌, append_assoc}
use Rattle.run.specs.Partial.{kept_length}
use Rattle.run.specs.Run.{Runner, Fed, program, feed, finish, start}
use Rattle.run.proofs.Kept.{feed-alike, finish-alike}
use Rattle.run.proofs.Pieces.{feed-append, feed-answers}
use Rattle.conversation.specs.Conversation.{no_turn, next_turn, Course, stopped, to_the_end}
use Rattle.service.specs.Calls.{RanAll, HearsCalls, EndsCalls, new_run}
use Rattle.service.specs.Laws.{heard-all}
use Rattle.service.specs.Served.{written_by, no_messages}
use Rattle.service.specs.Claims.{TurnsRun, ServeBegins, ServeWrites, ServeEnds}

both : {x y z w : List ℕ} → x ≡ y → z ≡ w → x ++ z ≡ y ++ w
both f g = cc

-- One piece more.
pub ran-more : {from r t : Runner} (input piece given more : List ℕ) → RanAll from input given r → RanAll r piece more t
    → RanAll from (input ++ piece) (given ++ more) t
ran-more {from} {r} {t} input piece given more a b =
    let n = feed-alike piece (record { machines = a.machine; lines = a.line }) in
    let all = sym (feed-append from input piece) in
    record {
      machine = b.machine ∙ n.runners.machines ∙ ap (λ (f : Fed). f.runner.machine) all;
      line = b.line ∙ n.runners.lines ∙ ap (λ (f : Fed). take kept_length f.runner.line) all;
      written = both a.written (b.written ∙ n.written) ∙ ap (λ (f : Fed). f.written) all;
    }

pub turns-run : TurnsRun
unfolding feed
turns-run s t n input given messages no_turn = record { machine = refl; line = refl; written = refl }
turns-run s t n input given messages (next_turn {t = r} {input = before} {out = wrote} piece turns some h) =
    ran-more before piece wrote t.written (turns-run s r _ before wrote _ turns) (heard-all piece h)

pub serve-begins : ServeBegins
unfolding program
serve-begins t n input given messages turns later =
    let b = turns-run new_run t n input given messages turns in
    let f = feed (feed start input).runner later in
    record {
      rest = f.written ++ (finish f.runner).written;
      is =
          rw b.written (sym (append_assoc (feed start input).written f.written (finish f.runner).written)
          ∙ sym (ap (λ (g : Fed). g.written ++ (finish g.runner).written) (feed-append start input later))
          ∙ feed-answers start (input ++ later));
    }

-- The end of the input.
record Ended (input out : List ℕ) (t : Fed) : Type 0 where
  writes : out ≡ program input
  machine : t.runner.machine ≡ (finish (feed start input).runner).runner.machine
  no_line : t.runner.line ≡ []

course-ends : {n : ℕ} {input out err : List ℕ} {t : Fed} (b : Bool) → b ≡ true
    → Course HearsCalls EndsCalls written_by no_messages new_run b n input out err t → Ended input out t
unfolding program
course-ends b e (stopped turns) = cc
course-ends b e (to_the_end {last = last} {t} {n} {input} {out} {err} turns ends) =
    let a = turns-run new_run last n input out err turns in
    let same = finish-alike (record { machines = a.machine; lines = a.line }) in
    record {
      writes = both a.written (ends.written ∙ ap (λ (f : Fed). f.written) same) ∙ feed-answers start input;
      machine = ends.machine ∙ ap (λ (f : Fed). f.runner.machine) same;
      no_line = ends.no_line;
    }

pub serve-writes : ServeWrites
serve-writes left left' wrote wrote' r t e final = let k = course-ends _ final e.course in k.writes

pub serve-ends : ServeEnds
serve-ends left left' wrote wrote' r t e final = let k = course-ends _ final e.course in (k.machine, k.no_line)
