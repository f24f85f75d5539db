use Rattle.cluster_core.proofs.rounds.AtRest.{rests-without-requests}
use Rattle.cluster_core.proofs.laws.a_serving_server_at_rest_has_no_request.Goals as goal

pub returns : goal.returns
returns c = rests-without-requests
