use Rattle.client_history.specs.declared.open_client_call.OpenClientCall.{OpenClientCall}
use Rattle.client_history.specs.code.OpenCalls.{IsGrown, IsNeeded, IsLeft, IsIn, IsLeftOf}
use Rattle.client_history.proofs.SetLaws.{Below}
use Rattle.client_history.proofs.first_calls.add_needed.Given as goal

abbrev pub invariant-loop-other : goal.invariant-loop-other
invariant-loop-other l = record {
  grown : IsGrown l.«open» l.fn.set.items l.set.items;
  all : Below (λ (one : OpenClientCall). IsLeft one l.taken → IsNeeded (IsLeftOf l.«open» l.taken) l.call.call l.kept one.index one.call → IsIn l.set.items one.index) l.«open» l.other-index;
}
