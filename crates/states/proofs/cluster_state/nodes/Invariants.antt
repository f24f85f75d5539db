use Rattle.std.specs.Prelude.{◌≡◌, All, map}
use Rattle.token_server.specs.code.Rows.{nodes_where}
use Rattle.cluster_core.specs.rule.Parts.{world_state}
use Rattle.cluster_core.specs.rule.World.{has_node}
use Rattle.states.specs.rule.States.{IsToldNode}
use Rattle.states.proofs.cluster_state.nodes.Given as goal

abbrev pub invariant-loop-place : goal.invariant-loop-place
invariant-loop-place l = record {
  numbers : map (λ n. n.node) l.nodes.items ≡ nodes_where (has_node (world_state l.world)) l.place;
  each : All (IsToldNode (world_state l.world)) l.nodes.items;
}
