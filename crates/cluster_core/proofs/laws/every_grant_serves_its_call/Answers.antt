use Rattle.cluster_core.proofs.runs.Runs.{every_grant}
use Rattle.cluster_core.proofs.laws.every_grant_serves_its_call.Goals as goal

pub returns : goal.returns
returns c = every_grant
