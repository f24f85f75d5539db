use Rattle.std.specs.Prelude.{◌≡◌, true, not, All}
use Rattle.std.proofs.Common.{take}
use Rattle.token_server.specs.rule.Requests.{is_of_call}
use Rattle.token_server.proofs.token_queue.active.place_of.Given as goal

abbrev pub invariant-loop-place : goal.invariant-loop-place
invariant-loop-place l = All (λ h. not (is_of_call l.call h.request) ≡ true) (take l.place l.held)
