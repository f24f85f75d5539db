use Rattle.std.proofs.Common.{◌∙◌}
use Rattle.node_core.proofs.NodeLaws.{file-within, file-state}
use Rattle.node_core.proofs.node.Node.file.Goals as goal

pub get-requires : goal.get-requires
get-requires c = file-within _ c.args.file (rw c.self.view_is c.requires) c.self.invariant

pub returns-clause-state : goal.returns-clause-state
returns-clause-state c = rw (← c.self.view_is) (c.get.ensures.state ∙ file-state _ c.args.file)

pub returns-clause-row : goal.returns-clause-row
returns-clause-row c = rw (← c.self.view_is) c.get.ensures.row
