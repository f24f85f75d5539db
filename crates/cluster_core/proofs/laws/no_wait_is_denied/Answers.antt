use Rattle.cluster_core.proofs.runs.Runs.{no_wait}
use Rattle.cluster_core.proofs.laws.no_wait_is_denied.Goals as goal

pub returns : goal.returns
returns c = no_wait
