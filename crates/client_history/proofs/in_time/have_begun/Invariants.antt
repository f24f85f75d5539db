use Rattle.std.proofs.Common.{◌<◌, ◌≤◌, ℕ}
use Rattle.client_history.specs.declared.client_call.ClientCall.{ClientCall}
use Rattle.client_history.specs.rule.Explained.{IsAt}
use Rattle.client_history.proofs.in_time.have_begun.Given as goal

abbrev pub invariant-loop-i : goal.invariant-loop-i
invariant-loop-i l = (k : ℕ) (call : ClientCall) → k < l.i-index → IsAt l.calls l.order k call → call.begin ≤ l.time
