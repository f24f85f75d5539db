use Rattle.node_core.specs.rule.Parts.{node_state}
use Rattle.node_core.specs.rule.State.{first_node}
use Rattle.cluster_core.proofs.common.Numbered.{begun_empty, begun_more}
use Rattle.cluster_core.proofs.world.first_nodes.Goals as goal

pub loop-index-init : goal.loop-index-init
loop-index-init c = rw c.new-nodes.ensures.items (begun_empty node_state (λ n. first_node c.args.shape n 1))

pub loop-index-preserved : goal.loop-index-preserved
loop-index-preserved c = begun_more node_state (λ n. first_node c.args.shape n 1) _ _ _ _ c.loop-index.invariant c.in_ok-node.ensures c.in_ok-add.ensures
