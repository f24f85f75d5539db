use Rattle.message_text.proofs.MessageKinds.{with_epochs}
use Rattle.message_text.proofs.NameTexts.{view-none}
use Rattle.message_text.proofs.fields.of_epoch.Goals as goal

pub returns-in_err-epoch : goal.returns-in_err-epoch
returns-in_err-epoch g c = rw c.from_residual.ensures (view-none (with_epochs g.B.Text.text_of g.B.Text.is_served) c.args.text.now c.in_err-epoch.ensures)
