use Rattle.node_core.specs.rule.Parts.{node_state}
use Rattle.node_core.proofs.NodeLaws.{node-owners, node-anchored}
use Rattle.node_core.proofs.node.Node.regions.Goals as goal

pub returns-clause-listing : goal.returns-clause-listing
unfolding node_state
returns-clause-listing c = rw (← c.self.view_is) c.locks.ensures

pub returns-clause-own : goal.returns-clause-own
returns-clause-own c = rw (← c.self.view_is) (node-owners _ c.args.file c.self.invariant)

pub returns-clause-anchored : goal.returns-clause-anchored
returns-clause-anchored c = rw (← c.self.view_is) (node-anchored _ c.self.invariant)
