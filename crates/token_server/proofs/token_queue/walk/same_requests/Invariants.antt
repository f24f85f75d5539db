use Rattle.std.proofs.Common.{length, ◌-◌, ◌≡◌, ◌↔◌, ◌<◌, ◌≤◌, drop, is_some, true}
use Rattle.token_server.specs.rule.Requests.{requests_in}
use Rattle.token_server.specs.code.Admissions.{request_at}
use Rattle.token_server.proofs.token_queue.walk.same_requests.Given as goal

abbrev pub invariant-loop-here : goal.invariant-loop-here
invariant-loop-here l = record {
  here_within : l.here ≤ length l.slots;
  there_within : l.there ≤ length l.others;
  here_holds : l.here < length l.slots → is_some (request_at l.slots l.here) ≡ true;
  there_holds : l.there < length l.others → is_some (request_at l.others l.there) ≡ true;
  rests : (requests_in l.slots ≡ requests_in l.others) ↔ (requests_in (drop l.here l.slots) ≡ requests_in (drop l.there l.others));
}

abbrev pub decreases-loop-here : goal.decreases-loop-here
decreases-loop-here l = length l.slots - l.here
