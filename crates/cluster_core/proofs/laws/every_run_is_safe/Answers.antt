use Rattle.cluster_core.proofs.runs.Runs.{safe_run}
use Rattle.cluster_core.proofs.laws.every_run_is_safe.Goals as goal

pub returns : goal.returns
returns c = λ shape es is w l. safe_run shape es w is l
