use Rattle.message_text.proofs.NameTexts.{view-none}
use Rattle.lockscript.proofs.Clusters.{clusters}
use Rattle.lockscript.proofs.cluster_line.shape_operands.Goals as goal

pub returns-in_err-nodes : goal.returns-in_err-nodes
returns-in_err-nodes c = rw c.from_residual.ensures (view-none (clusters c.args.version) c.args.text.now c.in_err-nodes.ensures)
