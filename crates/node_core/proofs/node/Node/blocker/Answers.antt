use Rattle.node_core.proofs.NodeLaws.{node-blocker}
use Rattle.node_core.proofs.node.Node.blocker.Goals as goal

pub returns : goal.returns
returns c = rw (← c.self.view_is) (node-blocker _ c.args.call.now c.blocker.result (rw c.self.view_is c.requires) c.self.invariant c.blocker.ensures)
