use Rattle.client_history.specs.code.Search.{IsAsked}
use Rattle.client_history.proofs.Standing.{EachTo}
use Rattle.client_history.proofs.front_list.ask_each.Given as goal

abbrev pub invariant-loop-front : goal.invariant-loop-front
invariant-loop-front l = EachTo (IsAsked l.call) l.fn.fronts l.fronts l.front-index
