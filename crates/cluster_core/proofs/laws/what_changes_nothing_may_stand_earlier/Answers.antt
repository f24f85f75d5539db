use Rattle.cluster_core.proofs.history.Quiet.{quiet_earlier}
use Rattle.cluster_core.proofs.laws.what_changes_nothing_may_stand_earlier.Goals as goal

pub returns : goal.returns
returns c = quiet_earlier
