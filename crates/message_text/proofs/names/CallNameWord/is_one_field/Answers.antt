use Rattle.message_text.proofs.NameTexts.{call_is_one_field}
use Rattle.message_text.proofs.names.CallNameWord.is_one_field.Goals as goal

pub returns : goal.returns
returns c = call_is_one_field
