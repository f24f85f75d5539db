use Rattle.cluster_core.proofs.runs.Checked.{none_wrong}
use Rattle.cluster_core.proofs.laws.no_run_has_a_wrong_entry.Goals as goal

pub returns : goal.returns
returns c = none_wrong
