use Rattle.message_text.proofs.NameTexts.{holder_is_one_field}
use Rattle.message_text.proofs.names.HostNameWord.is_one_field.Goals as goal

pub returns : goal.returns
returns c = holder_is_one_field
