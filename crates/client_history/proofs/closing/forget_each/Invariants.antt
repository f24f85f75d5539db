use Rattle.client_history.specs.code.Search.{HasForgotten}
use Rattle.client_history.proofs.Standing.{EachTo}
use Rattle.client_history.proofs.closing.forget_each.Given as goal

abbrev pub invariant-loop-front : goal.invariant-loop-front
invariant-loop-front l = EachTo (HasForgotten l.over) l.fn.fronts l.fronts l.front-index
