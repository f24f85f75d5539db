use Rattle.std.proofs.Common.{◌≡◌}
use Rattle.client_history.specs.declared.open_client_call.OpenClientCall.{OpenClientCall}
use Rattle.client_history.proofs.SetLaws.{Below}
use Rattle.client_history.proofs.first_calls.has_index.Given as goal

abbrev pub invariant-loop-call : goal.invariant-loop-call
invariant-loop-call l = Below (λ (one : OpenClientCall). one.index ≡ l.index → ⊥) l.calls l.call-index
