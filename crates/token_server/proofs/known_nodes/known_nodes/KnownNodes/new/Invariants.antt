use Rattle.std.specs.Prelude.{◌≡◌, All, length, None}
use Rattle.token_server.proofs.known_nodes.known_nodes.KnownNodes.new.Given as goal

abbrev pub invariant-loop-node : goal.invariant-loop-node
invariant-loop-node l = record {
  unknown : All (λ known_node. known_node ≡ record { dead = 0; row = None }) l.known_nodes.items;
  len : length l.known_nodes.items ≡ l._node;
}
