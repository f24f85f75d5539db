use Rattle.cluster_core.proofs.rounds.InLine.{in_line-kept}
use Rattle.cluster_core.proofs.laws.what_is_in_line_is_kept.Goals as goal

pub returns : goal.returns
returns c = in_line-kept
