use Rattle.std.specs.Prelude.{◌≡◌}
use Rattle.token_server.specs.rule.RowParts.{rows_of}
use Rattle.token_server.specs.rule.Rows.{outstanding_to}
use Rattle.token_server.proofs.known_nodes.known_nodes.KnownNodes.outstanding.Given as goal

abbrev pub invariant-loop-known_node : goal.invariant-loop-known_node
invariant-loop-known_node l = l.commands ≡ outstanding_to (rows_of l.self) l.known_node-index
