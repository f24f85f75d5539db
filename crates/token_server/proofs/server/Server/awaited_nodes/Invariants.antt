use Rattle.std.specs.Prelude.{◌≡◌}
use Rattle.token_server.specs.rule.Rows.{is_awaited}
use Rattle.token_server.specs.rule.Parts.{server_state}
use Rattle.token_server.specs.code.Rows.{nodes_where}
use Rattle.token_server.proofs.server.Server.awaited_nodes.Given as goal

abbrev pub invariant-loop-place : goal.invariant-loop-place
invariant-loop-place l = l.nodes.items ≡ nodes_where (λ n. is_awaited ((server_state l.self).rows n)) l.place
