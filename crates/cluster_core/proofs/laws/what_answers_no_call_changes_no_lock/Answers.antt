use Rattle.cluster_core.proofs.rounds.NodeRests.{rests-without-reply}
use Rattle.cluster_core.proofs.laws.what_answers_no_call_changes_no_lock.Goals as goal

pub returns : goal.returns
returns c = rests-without-reply
