use Rattle.indexmap.specs.IndexSet.{contains}
use Rattle.model.specs.contracts.owner.OwnerPartialEq.TheImpl as derived
use Rattle.client_history.proofs.ExitLaws.{GoneTo}
use Rattle.client_history.proofs.exits.exits_are_last.Given as goal

abbrev pub invariant-loop-i : goal.invariant-loop-i
invariant-loop-i l = GoneTo l.calls l.order l.i-index (contains derived.ghosts.eq l.gone)
