use Rattle.cluster_core.proofs.runs.Runs.{every_denial}
use Rattle.cluster_core.proofs.laws.every_denial_has_evidence.Goals as goal

pub returns : goal.returns
returns c = every_denial
