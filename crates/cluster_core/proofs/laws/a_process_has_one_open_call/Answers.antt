use Rattle.cluster_core.proofs.rounds.OneCall.{one_each}
use Rattle.cluster_core.proofs.laws.a_process_has_one_open_call.Goals as goal

pub returns : goal.returns
returns c = one_each
