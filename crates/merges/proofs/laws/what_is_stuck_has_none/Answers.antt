use Rattle.merges.proofs.Methods.{what_is_stuck_has_none as holds}
use Rattle.merges.proofs.laws.what_is_stuck_has_none.Goals as goal

pub returns : goal.returns
returns c = holds
