use Rattle.cluster_core.proofs.rounds.Serving.{each_server-rests}
use Rattle.cluster_core.proofs.laws.a_server_at_rest_has_no_request.Goals as goal

pub returns : goal.returns
returns c = each_server-rests
