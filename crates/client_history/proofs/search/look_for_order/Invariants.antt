use Rattle.client_history.specs.code.Search.{AreTimed, IsReached}
use Rattle.client_history.proofs.search.look_for_order.Given as goal

abbrev pub invariant-loop-end_of : goal.invariant-loop-end_of
invariant-loop-end_of l = AreTimed l.calls l.begins.moments.now l.end_of-items → IsReached l.calls l.begins.moments.now l.end_of-items l.begun l.end_of-index l.«open».items l.fronts.items
