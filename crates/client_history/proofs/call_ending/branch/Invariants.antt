use Rattle.std.proofs.Common.{◌≡◌, ℕ, ◌<◌, slice_get, Some}
use Rattle.client_history.specs.declared.open_client_call.OpenClientCall.{OpenClientCall}
use Rattle.client_history.specs.code.Search.{HasAll, HasNext}
use Rattle.client_history.proofs.call_ending.branch.Given as goal

abbrev pub invariant-loop-call : goal.invariant-loop-call
invariant-loop-call l = record {
  kept : HasAll l.fn.queue.items l.queue.items;
  next : (k : ℕ) (one : OpenClientCall) → k < l.call-index → slice_get l.others k ≡ Some one → HasNext l.ending.«open».now l.front one l.queue.items;
}
