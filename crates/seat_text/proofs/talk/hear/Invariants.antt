use Rattle.seat_text.specs.rule.Talks.{HearsPart}
use Rattle.seat_text.proofs.talk.hear.Given as goal

abbrev pub invariant-loop : goal.invariant-loop
invariant-loop g l = HearsPart (g.R.Read.remaining l.fn.reader) (g.R.Read.remaining l.reader) l.line.items l.is_long
