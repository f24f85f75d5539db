use Rattle.message_text.proofs.NameTexts.{epoch_is_one_field}
use Rattle.message_text.proofs.fields.EpochNameWord.is_one_field.Goals as goal

pub returns : goal.returns
returns c = epoch_is_one_field
