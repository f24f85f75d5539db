use Rattle.std.specs.Prelude.{◌≡◌, All, map, is_some}
use Rattle.token_server.specs.rule.Parts.{server_state}
use Rattle.token_server.specs.code.Rows.{nodes_where, IsRow}
use Rattle.token_server.proofs.server.Server.rows.Given as goal

abbrev pub invariant-loop-place : goal.invariant-loop-place
invariant-loop-place l = record {
  nodes : map (λ r. r.node) l.rows.items ≡ nodes_where (λ n. is_some ((server_state l.self).rows n)) l.place;
  each : All (IsRow (server_state l.self)) l.rows.items;
}
