use Rattle.cluster_core.proofs.rounds.NodeTries.{try-answers_or_asks}
use Rattle.cluster_core.proofs.laws.a_try_answers_or_asks.Goals as goal

pub returns : goal.returns
returns c = try-answers_or_asks
