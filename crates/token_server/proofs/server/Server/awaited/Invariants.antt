use Rattle.std.specs.Prelude.{◌≡◌, ◌≤◌}
use Rattle.std.proofs.Common.{take}
use Rattle.token_server.specs.rule.Obstacles.{obstacle}
use Rattle.token_server.specs.code.Edits.{reached}
use Rattle.token_server.proofs.AwaitLaws.{Await}
use Rattle.token_server.proofs.server.Server.awaited.Given as goal

abbrev pub invariant-loop-place : goal.invariant-loop-place
invariant-loop-place l = (l.place ≤ l.many) × Await (λ r a. obstacle (reached l.self l.rows) r ≡ a) (take l.place l.self.active.held) l.ats.items
