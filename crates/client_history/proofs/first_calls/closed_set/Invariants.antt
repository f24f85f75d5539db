use Rattle.std.proofs.Common.{◌≡◌, ◌-◌, [], length}
use Rattle.lock_table.specs.rule.Tables.{held}
use Rattle.client_history.specs.declared.client_call.ClientCall.{ClientCall}
use Rattle.client_history.specs.declared.open_client_call.OpenClientCall.{OpenClientCall}
use Rattle.client_history.specs.code.OpenCalls.{IsGrown, IsIn, IsLeftOf, AreAsked}
use Rattle.client_history.proofs.SetLaws.{Below, IsServedAt}
use Rattle.client_history.proofs.first_calls.closed_set.Given as goal

abbrev pub invariant-loop-call : goal.invariant-loop-call
invariant-loop-call l = record {
  grown : IsGrown l.«open» [] l.set.items;
  has : Below (λ (one : OpenClientCall). one.index ≡ l.end → IsIn l.set.items one.index) l.«open» l.call-index;
}

abbrev pub invariant-loop-place : goal.invariant-loop-place
invariant-loop-place l = record {
  grown : IsGrown l.«open» [] l.set.items;
  has_end : (call : ClientCall) → IsLeftOf l.«open» l.taken l.end call → IsIn l.set.items l.end;
  served : AreAsked l.«open» l.taken (held l.table) → Below (λ (one : OpenClientCall). IsServedAt (held l.table) l.«open» l.taken l.set.items one.index) l.set.items l.place;
}

abbrev pub decreases-loop-place : goal.decreases-loop-place
decreases-loop-place l = length l.«open» - l.place
