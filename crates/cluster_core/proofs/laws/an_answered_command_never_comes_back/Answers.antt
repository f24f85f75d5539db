use Rattle.cluster_core.proofs.rounds.RowsOn.{each_row-goes_on}
use Rattle.cluster_core.proofs.laws.an_answered_command_never_comes_back.Goals as goal

pub returns : goal.returns
returns c = each_row-goes_on
