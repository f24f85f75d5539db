use Rattle.client_history.proofs.MoveLaws.{moves_before}
use Rattle.client_history.proofs.laws.changes_stand_earlier.Goals as goal

pub returns : goal.returns
returns c = moves_before
