use Rattle.cluster_core.proofs.rounds.ServerSteps.{each_server-serving}
use Rattle.cluster_core.proofs.laws.each_server_is_serving.Goals as goal

pub returns : goal.returns
returns c = each_server-serving
