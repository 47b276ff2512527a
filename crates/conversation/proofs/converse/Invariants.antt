-- The turns so far.
use Rattle.conversation.proofs.Turning.{Reached}
use Rattle.conversation.proofs.converse.Given as goal

abbrev pub invariant-loop-turn : goal.invariant-loop-turn
invariant-loop-turn g l =
    let t = g.T.Teller in
    Reached t.Hears t.output t.messages (g.R.Read.remaining l.fn.input) (g.R.Read.remaining l.input) (g.W.Write.contents l.fn.output)
    (g.W.Write.contents l.output) (g.E.Write.contents l.fn.errors) (g.E.Write.contents l.errors) l.fn.teller l._turn l.teller
