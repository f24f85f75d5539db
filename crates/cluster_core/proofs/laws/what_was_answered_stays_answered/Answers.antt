use Rattle.cluster_core.proofs.rounds.Outstanding.{answered-stays}
use Rattle.cluster_core.proofs.laws.what_was_answered_stays_answered.Goals as goal

pub returns : goal.returns
returns c = answered-stays
