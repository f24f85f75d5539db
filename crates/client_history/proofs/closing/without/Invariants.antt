use Rattle.client_history.proofs.ClosingLaws.{WithoutTo}
use Rattle.client_history.proofs.closing.without.Given as goal

abbrev pub invariant-loop-call : goal.invariant-loop-call
invariant-loop-call l = WithoutTo l.«open» l.over l.call-index l.left.items
