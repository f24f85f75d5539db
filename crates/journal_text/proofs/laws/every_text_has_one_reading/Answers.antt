use Rattle.journal_text.proofs.OneReading.{one_reading}
use Rattle.journal_text.proofs.laws.every_text_has_one_reading.Goals as goal

pub returns : goal.returns
returns c = one_reading
