use Rattle.cluster_core.proofs.runs.Runs.{every_run}
use Rattle.cluster_core.proofs.laws.every_run_has_a_history.Goals as goal

pub returns : goal.returns
returns c = every_run
