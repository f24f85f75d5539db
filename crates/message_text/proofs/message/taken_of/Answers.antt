use Rattle.message_text.proofs.MessageKinds.{takens}
use Rattle.message_text.proofs.NameTexts.{none-of}
use Rattle.message_text.proofs.message.taken_of.Goals as goal

pub returns-in_err-file : goal.returns-in_err-file
returns-in_err-file g c = rw c.from_residual.ensures (none-of (takens g.V.Edition.version) c.args.operands.now c.in_err-file.ensures)
