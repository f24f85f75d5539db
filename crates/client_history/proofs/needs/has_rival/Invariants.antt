use Rattle.client_history.specs.declared.open_client_call.OpenClientCall.{OpenClientCall}
use Rattle.client_history.proofs.SetLaws.{Below, IsRival}
use Rattle.client_history.proofs.needs.has_rival.Given as goal

abbrev pub invariant-loop-other : goal.invariant-loop-other
invariant-loop-other l = Below (λ (one : OpenClientCall). IsRival l.taken l.call.index l.call.call.owner one → ⊥) l.«open» l.other-index
