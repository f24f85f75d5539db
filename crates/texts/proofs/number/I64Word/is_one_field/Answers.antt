use Rattle.texts.proofs.OneField.{signed_is_one_field}
use Rattle.texts.proofs.number.I64Word.is_one_field.Goals as goal

pub returns : goal.returns
returns c = signed_is_one_field
