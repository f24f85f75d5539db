use Rattle.std.specs.Prelude.{◌≡◌, All}
use Rattle.std.proofs.Common.{take}
use Rattle.token_server.specs.rule.Actives.{requests_of}
use Rattle.token_server.specs.rule.Obstacles.{obstacle}
use Rattle.token_server.specs.code.Edits.{reached}
use Rattle.token_server.proofs.server.Server.hold.Given as goal

abbrev pub invariant-loop-request : goal.invariant-loop-request
invariant-loop-request l = (requests_of l.fresh.items ≡ take l.request-index l.requests) × All (λ h. obstacle (reached l.self l.rows) h.request ≡ h.at) l.fresh.items
