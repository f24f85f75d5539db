use Rattle.std.proofs.Common.{◌≡◌, take}
use Rattle.token_server.specs.rule.Actives.{requests_of}
use Rattle.token_server.proofs.token_queue.active.same_requests.Given as goal

abbrev pub invariant-loop-place : goal.invariant-loop-place
invariant-loop-place l = take l.place (requests_of l.one) ≡ take l.place (requests_of l.other)
