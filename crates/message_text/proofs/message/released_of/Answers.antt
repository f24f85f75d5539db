use Rattle.message_text.proofs.MessageKinds.{releases}
use Rattle.message_text.proofs.NameTexts.{none-of}
use Rattle.message_text.proofs.message.released_of.Goals as goal

pub returns-in_err-file : goal.returns-in_err-file
returns-in_err-file g c = rw c.from_residual.ensures (none-of (releases g.V.Edition.version) c.args.operands.now c.in_err-file.ensures)
