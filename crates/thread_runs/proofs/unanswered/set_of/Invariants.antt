-- Each call so far is in the set.
use Rattle.std.proofs.Common.{◌≡◌, true, ℕ, ◌<◌, get_or}
use Rattle.std.specs.HashSet.{contains}
use Rattle.model.specs.declared.call.CallId.{CallId}
use Rattle.model.specs.contracts.call.CallIdPartialEq.TheImpl as derived
use Rattle.thread_runs.proofs.unanswered.set_of.Given as goal

abbrev pub invariant-loop-call : goal.invariant-loop-call
invariant-loop-call l = (k : ℕ) (d : CallId) → k < l.call-index → contains derived.ghosts.eq l.kept (get_or l.calls k d) ≡ true
