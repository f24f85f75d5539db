use Rattle.std.proofs.Common.{◌≡◌, ◌+◌, ◌++◌, length}
use Rattle.token_server.proofs.token_queue.line.Line.append.Given as goal

abbrev pub invariant-loop-request : goal.invariant-loop-request
invariant-loop-request l = record {
  requests : l.self.requests ++ l.other.requests ≡ l.fn.self.requests ++ l.fn.other.requests;
  room : l.self.room + length l.fn.other.requests ≡ l.fn.self.room + length l.other.requests;
  other_room : l.other.room ≡ l.fn.other.room;
}

abbrev pub decreases-loop-request : goal.decreases-loop-request
decreases-loop-request l = length l.other.requests
