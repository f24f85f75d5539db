use Rattle.client_history.proofs.AskLaws.{IsAskedTo}
use Rattle.client_history.proofs.search_front.SearchFront.ask_all.Given as goal

abbrev pub invariant-loop-call : goal.invariant-loop-call
invariant-loop-call l = IsAskedTo l.«open» l.call-index l.initial.self l.self
