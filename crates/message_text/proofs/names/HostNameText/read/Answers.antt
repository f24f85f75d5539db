use Rattle.message_text.proofs.NameTexts.{view-none, hosts}
use Rattle.message_text.proofs.names.HostNameText.read.Goals as goal

pub returns-in_err-node : goal.returns-in_err-node
returns-in_err-node c = rw c.from_residual.ensures (view-none hosts c.args.text.now c.in_err-node.ensures)
