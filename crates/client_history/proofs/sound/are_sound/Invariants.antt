use Rattle.std.proofs.Common.{◌≡◌, ◌<◌, ℕ, slice_get, Some}
use Rattle.client_history.specs.declared.client_call.ClientCall.{ClientCall}
use Rattle.client_history.specs.code.Search.{IsSound}
use Rattle.client_history.proofs.sound.are_sound.Given as goal

abbrev pub invariant-loop-call : goal.invariant-loop-call
invariant-loop-call l = (k : ℕ) (call : ClientCall) → k < l.call-index → slice_get l.calls k ≡ Some call → IsSound l.calls call
