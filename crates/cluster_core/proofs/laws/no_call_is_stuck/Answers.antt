use Rattle.cluster_core.proofs.rounds.Stuck.{no_call_is_stuck}
use Rattle.cluster_core.proofs.laws.no_call_is_stuck.Goals as goal

pub returns : goal.returns
returns c = no_call_is_stuck
