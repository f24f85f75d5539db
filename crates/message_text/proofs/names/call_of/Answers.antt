use Rattle.message_text.proofs.NameTexts.{view-none, calls}
use Rattle.message_text.proofs.names.call_of.Goals as goal

pub returns-in_err-node : goal.returns-in_err-node
returns-in_err-node c = rw c.from_residual.ensures (view-none calls c.args.word.now c.in_err-node.ensures)
