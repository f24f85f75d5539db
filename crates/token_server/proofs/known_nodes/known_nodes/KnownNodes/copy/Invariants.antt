use Rattle.std.proofs.Common.{◌≡◌, take}
use Rattle.token_server.proofs.known_nodes.known_nodes.KnownNodes.copy.Given as goal

abbrev pub invariant-loop-known_node : goal.invariant-loop-known_node
invariant-loop-known_node l = l.nodes.items ≡ take l.known_node-index l.known_node-items
