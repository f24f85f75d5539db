use Rattle.message_text.proofs.MessageKinds.{hellos}
use Rattle.message_text.proofs.NameTexts.{none-of}
use Rattle.message_text.proofs.message.hello_of.Goals as goal

pub returns-in_err-file : goal.returns-in_err-file
returns-in_err-file g c = rw c.from_residual.ensures (none-of (hellos g.V.Edition.version) c.args.operands.now (λ p fits. c.in_err-file.ensures p fits.1))
