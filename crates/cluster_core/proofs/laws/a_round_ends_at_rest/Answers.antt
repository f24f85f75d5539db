use Rattle.cluster_core.proofs.rounds.RoundRests.{round-rests}
use Rattle.cluster_core.proofs.laws.a_round_ends_at_rest.Goals as goal

pub returns : goal.returns
returns c = round-rests
