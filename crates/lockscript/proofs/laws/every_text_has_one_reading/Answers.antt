use Rattle.lockscript.proofs.OneReading.{one_reading}
use Rattle.lockscript.proofs.laws.every_text_has_one_reading.Goals as goal

pub returns : goal.returns
returns c = one_reading
