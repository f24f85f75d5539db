use Rattle.message_text.proofs.NameTexts.{none-of, descriptions}
use Rattle.message_text.proofs.names.description_owner.Goals as goal

pub returns-in_err-number : goal.returns-in_err-number
returns-in_err-number c = rw c.from_residual.ensures (none-of descriptions c.args.rest.now c.in_err-number.ensures)
