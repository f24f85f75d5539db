use Rattle.std.proofs.Common.{◌≡◌, ◌<◌, ℕ, true, false, slice_get, get_or, Some}
use Rattle.client_history.specs.declared.client_call.ClientCall.{ClientCall}
use Rattle.client_history.specs.rule.Explained.{EndedBy}
use Rattle.client_history.proofs.answered.are_answered.Given as goal

abbrev pub invariant-loop-i : goal.invariant-loop-i
invariant-loop-i l = (j : ℕ) (call : ClientCall) → j < l.i → slice_get l.calls j ≡ Some call → EndedBy l.time call → get_or l.marks j false ≡ true
