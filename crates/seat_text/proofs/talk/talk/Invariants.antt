use Rattle.seat_text.specs.rule.Talks.{Talks}
use Rattle.seat_text.proofs.talk.talk.Given as goal

abbrev pub invariant-loop : goal.invariant-loop
invariant-loop g l =
    Talks g.A.Answerer.says l.fn.who l.who (g.R.Read.remaining l.fn.reader) (g.R.Read.remaining l.reader)
    (g.L.Write.contents l.fn.log) (g.L.Write.contents l.log) (g.W.Write.contents l.fn.out) (g.W.Write.contents l.out)
