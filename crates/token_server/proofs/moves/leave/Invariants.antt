use Rattle.std.specs.Prelude.{◌≡◌}
use Rattle.std.proofs.Common.{take}
use Rattle.token_server.specs.rule.Actives.{requests_of}
use Rattle.token_server.specs.code.Admissions.{all_but}
use Rattle.token_server.proofs.moves.leave.Given as goal

abbrev pub invariant-loop-held : goal.invariant-loop-held
invariant-loop-held l = l.queue.requests ≡ all_but (requests_of (take l.held-index l.fresh)) l.fn.queue.requests
