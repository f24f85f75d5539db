use Rattle.cluster_core.proofs.rounds.NodeTries.{grant-answers}
use Rattle.cluster_core.proofs.laws.a_grant_answers_its_call.Goals as goal

pub returns : goal.returns
returns c = grant-answers
