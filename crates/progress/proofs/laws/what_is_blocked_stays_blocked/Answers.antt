use Rattle.progress.proofs.Blocking.{blocked_stays}
use Rattle.progress.proofs.laws.what_is_blocked_stays_blocked.Goals as goal

pub returns : goal.returns
returns c = blocked_stays
