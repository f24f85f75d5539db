use Rattle.std.proofs.Common.{◌≡◌, ◌+◌, ◌++◌, length, take}
use Rattle.token_server.specs.rule.Requests.{requests_in}
use Rattle.token_server.proofs.token_queue.line.Line.push_all.Given as goal

abbrev pub invariant-loop-slot : goal.invariant-loop-slot
invariant-loop-slot l = record {
  requests : l.self.requests ≡ l.fn.self.requests ++ requests_in (take l.slot-index l.slots);
  room : l.self.room + length (requests_in (take l.slot-index l.slots)) ≡ l.fn.self.room;
}
