use Rattle.std.specs.Prelude.{◌≡◌, ◌≤◌, false, All, length}
use Rattle.std.proofs.Common.{take, drop}
use Rattle.token_server.specs.code.Admissions.{may_turn}
use Rattle.token_server.specs.rule.RowParts.{rows_of}
use Rattle.token_server.proofs.server.Server.freed_up_to.Given as goal

abbrev pub invariant-loop-place : goal.invariant-loop-place
invariant-loop-place l =
    (l.many ≤ l.place)
    × (l.many ≤ length l.self.active.held)
    × All (λ h. may_turn l.changed (rows_of l.self.known_nodes l.changed.node) h ≡ false) (drop l.many (take l.place l.self.active.held))
