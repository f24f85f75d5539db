use Rattle.std.proofs.Common.{◌≡◌}
use Rattle.lock_table.specs.rule.Tables.{held}
use Rattle.client_history.specs.declared.open_client_call.OpenClientCall.{OpenClientCall}
use Rattle.client_history.specs.code.OpenCalls.{IsGrown, IsServed, IsLeft, IsIn, IsLeftOf, AreAsked}
use Rattle.client_history.proofs.SetLaws.{Below}
use Rattle.client_history.proofs.first_calls.serve.Given as goal

abbrev pub invariant-loop-call : goal.invariant-loop-call
invariant-loop-call l = record {
  grown : IsGrown l.«open» l.fn.set.items l.set.items;
  served : AreAsked l.«open» l.taken (held l.table) → Below (λ (one : OpenClientCall). one.index ≡ l.index → IsLeft one l.taken → IsServed (held l.table) (IsLeftOf l.«open» l.taken) (IsIn l.set.items) one.call) l.«open» l.call-index;
}
