use Rattle.std.proofs.Common.{length, ◌-◌, ◌≡◌, ◌≤◌, drop}
use Rattle.token_server.specs.rule.Requests.{requests_in}
use Rattle.token_server.proofs.token_queue.walk.first_from.Given as goal

abbrev pub invariant-loop-place : goal.invariant-loop-place
invariant-loop-place l = record { after : l.fn.from ≤ l.place; within : l.place ≤ length l.slots; rest : requests_in (drop l.place l.slots) ≡ requests_in (drop l.fn.from l.slots) }

abbrev pub decreases-loop-place : goal.decreases-loop-place
decreases-loop-place l = length l.slots - l.place
