use Rattle.node_core.specs.rule.Parts.{node_state}
use Rattle.node_core.specs.rule.State.{first_node}
use Rattle.cluster_core.proofs.common.Numbered.{Begun}
use Rattle.cluster_core.proofs.world.first_nodes.Given as goal

abbrev pub invariant-loop-index : goal.invariant-loop-index
invariant-loop-index l = Begun node_state (λ n. first_node l.shape n 1) l.nodes.items l.index
