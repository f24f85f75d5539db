use Rattle.indexmap.specs.IndexSet.{contains}
use Rattle.model.specs.contracts.owner.OwnerPartialEq.TheImpl as derived
use Rattle.client_history.proofs.ExitLaws.{ExitsTo, WholeTo}
use Rattle.client_history.proofs.exits.exits_are_whole.Given as goal

abbrev pub invariant-loop-i : goal.invariant-loop-i
invariant-loop-i l = ExitsTo l.calls l.order l.i-index (contains derived.ghosts.eq l.gone)

abbrev pub invariant-loop-i-2 : goal.invariant-loop-i-2
invariant-loop-i-2 l = WholeTo l.calls l.order l.i
