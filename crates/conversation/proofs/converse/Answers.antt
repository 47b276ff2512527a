-- Turn after turn, each on what the one before left, and how it ends.
use Rattle.std.proofs.Common.{◌≡◌, ◌<◌, length, take, length-take-le, rules, arith}
use Rattle.std.specs.Prelude.{MatchResult, Ok, Err}
use Rattle.std.specs.Io.KnownBytes.{Appends}
use Rattle.conversation.specs.declared.Stop.TheVariants.{Read}
use Rattle.conversation.proofs.Turning.{some-read, reached-none, reached-more, read-failed, write-failed, ended, all-used, conversed-all, conversed-begins}
use Rattle.conversation.proofs.converse.Goals as goal

pub loop-turn-init : goal.loop-turn-init
loop-turn-init g c = reached-none _ _ _ _

pub loop-turn-preserved : goal.loop-turn-preserved
loop-turn-preserved g c =
    let n = c.in_ok-n.n in
    let read : c.read_some-heard.result ≡ Ok n = search rules in
    let bytes = rw read at c.read_some-heard.ensures.bytes in
    let bound = rw read at c.read_some-heard.ensures.bound in
    let wrote : Appends (g.W.Write.contents c.loop-turn.output) (g.W.Write.contents c.deliver-in-loop-turn.new.output) (g.T.Teller.output c.hear.new.self) = search rules in
    reached-more c.loop-turn.invariant _ (some-read n c.read_some-heard.new.piece (omega arith) c.if-ended.false) bytes.0 c.hear.ensures wrote c.deliver-in-loop-turn.ensures.messages

pub returns-in_err-n-clause-conversed : goal.returns-in_err-n-clause-conversed
returns-in_err-n-clause-conversed g c =
    let w : MatchResult c.read_some-heard.result (λ n. ⊥) (λ e. c.from_residual.result ≡ Err (Read e)) = search rules in
    read-failed c.loop-turn.invariant _ c.read_some-heard.result w c.read_some-heard.ensures.bytes c.read_some-heard.ensures.patient

pub returns-in_err-n-clause-beginning : goal.returns-in_err-n-clause-beginning
returns-in_err-n-clause-beginning g c some =
    let t = g.met.T.Teller in
    conversed-begins _ _ t.hears_on t.ends_so some _ c.from_residual.result (returns-in_err-n-clause-conversed g c)

pub returns-then-ended-clause-conversed : goal.returns-then-ended-clause-conversed
returns-then-ended-clause-conversed g c =
    let read : c.read_some-heard.result ≡ Ok 0 = search rules in
    let bytes = rw read at c.read_some-heard.ensures.bytes in
    let some_room = g.T.Teller.some_room in
    let part : length (take c.min-most.result c.args.piece.now) ≡ c.min-most.result = length-take-le c.min-most.result c.args.piece.now (omega (arith, c.min-most.ensures)) in
    ended c.loop-turn.invariant c.deliver.result (search rules) bytes.0 (λ some. bytes.1 (omega (arith, some_room, c.room.ensures, c.min-most.ensures)) (omega arith)) (search rules) c.deliver.ensures.ok c.deliver.ensures.err c.deliver.ensures.messages

pub returns-then-ended-clause-all : goal.returns-then-ended-clause-all
returns-then-ended-clause-all g c some =
    let t = g.met.T.Teller in
    conversed-all _ _ t.hears_on t.ends_so some _ _ (returns-then-ended-clause-conversed g c)

pub returns-then-ended-clause-beginning : goal.returns-then-ended-clause-beginning
returns-then-ended-clause-beginning g c some =
    let t = g.met.T.Teller in
    conversed-begins _ _ t.hears_on t.ends_so some _ _ (returns-then-ended-clause-conversed g c)

pub returns-then-is_err-clause-conversed : goal.returns-then-is_err-clause-conversed
returns-then-is_err-clause-conversed g c =
    let n = c.in_ok-n.n in
    let read : c.read_some-heard.result ≡ Ok n = search rules in
    let bytes = rw read at c.read_some-heard.ensures.bytes in
    let bound = rw read at c.read_some-heard.ensures.bound in
    write-failed c.loop-turn.invariant c.deliver-in-loop-turn.result _ (search rules) (some-read n c.read_some-heard.new.piece (omega arith) c.if-ended.false)
    bytes.0 c.hear.ensures c.deliver-in-loop-turn.ensures.err c.deliver-in-loop-turn.ensures.messages

pub returns-then-is_err-clause-beginning : goal.returns-then-is_err-clause-beginning
returns-then-is_err-clause-beginning g c some =
    let t = g.met.T.Teller in
    conversed-begins _ _ t.hears_on t.ends_so some _ _ (returns-then-is_err-clause-conversed g c)

pub returns-else-is_err-clause-conversed : goal.returns-else-is_err-clause-conversed
returns-else-is_err-clause-conversed g c =
    let n = c.in_ok-n.n in
    let read : c.read_some-heard.result ≡ Ok n = search rules in
    let bytes = rw read at c.read_some-heard.ensures.bytes in
    let bound = rw read at c.read_some-heard.ensures.bound in
    let wrote : Appends (g.W.Write.contents c.loop-turn.output) (g.W.Write.contents c.deliver-in-loop-turn.new.output) (g.T.Teller.output c.hear.new.self) = search rules in
    let more =
    reached-more c.loop-turn.invariant _ (some-read n c.read_some-heard.new.piece (omega arith) c.if-ended.false) bytes.0 c.hear.ensures wrote c.deliver-in-loop-turn.ensures.messages in
    all-used more (omega arith)

pub returns-else-is_err-clause-beginning : goal.returns-else-is_err-clause-beginning
returns-else-is_err-clause-beginning g c some =
    let t = g.met.T.Teller in
    conversed-begins _ _ t.hears_on t.ends_so some _ _ (returns-else-is_err-clause-conversed g c)
