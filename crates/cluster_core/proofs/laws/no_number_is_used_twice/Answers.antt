use Rattle.cluster_core.proofs.runs.Runs.{no_number}
use Rattle.cluster_core.proofs.laws.no_number_is_used_twice.Goals as goal

pub returns : goal.returns
returns c = no_number
