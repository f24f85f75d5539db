use Rattle.client_history.specs.code.OpenCalls.{AreOwnerCalls}
use Rattle.client_history.proofs.owner_calls.OwnerCalls.new.Given as goal

abbrev pub invariant-loop-index : goal.invariant-loop-index
invariant-loop-index l = AreOwnerCalls l.calls l.owners
