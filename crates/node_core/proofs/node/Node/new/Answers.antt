use Rattle.std.proofs.Common.{◌∙◌}
use Rattle.node_core.proofs.NodeLaws.{first-state}
use Rattle.node_core.proofs.node.Node.new.Goals as goal

pub returns : goal.returns
returns c = rw c.new-4.ensures (first-state c.args.shape c.args.node c.args.incarnation c.new-2.result c.new-3.result c.in_ok-files.files c.new-2.ensures c.new-3.ensures.locks (c.new-3.ensures.limit ∙ c.most_regions.ensures) c.in_ok-files.ensures.state)
