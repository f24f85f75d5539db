use Rattle.std.proofs.Common.{◌≡◌, take}
use Rattle.token_server.specs.rule.Requests.{requests_in}
use Rattle.token_server.proofs.server.readers.listed.Given as goal

abbrev pub invariant-loop-slot : goal.invariant-loop-slot
invariant-loop-slot l = l.requests.items ≡ requests_in (take l.slot-index l.slots)
