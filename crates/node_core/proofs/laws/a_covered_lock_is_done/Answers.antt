use Rattle.node_core.proofs.RuleLaws.{covered_lock_is_done}
use Rattle.node_core.proofs.laws.a_covered_lock_is_done.Goals as goal

pub returns : goal.returns
returns c = covered_lock_is_done
