use Rattle.placement.proofs.Rises.{RisesTo}
use Rattle.placement.proofs.history.is_rising.Given as goal

abbrev pub invariant-loop-index : goal.invariant-loop-index
invariant-loop-index l = RisesTo l.items l.index
