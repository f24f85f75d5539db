use Rattle.client_history.proofs.Fronts.{moves_first}
use Rattle.client_history.proofs.laws.passing_calls_move_first.Goals as goal

pub returns : goal.returns
returns c = moves_first
