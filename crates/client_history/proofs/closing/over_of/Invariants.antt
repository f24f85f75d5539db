use Rattle.client_history.proofs.ClosingLaws.{OverTo}
use Rattle.client_history.proofs.closing.over_of.Given as goal

abbrev pub invariant-loop-call : goal.invariant-loop-call
invariant-loop-call l = OverTo l.«open» l.end l.call-index l.over.items
