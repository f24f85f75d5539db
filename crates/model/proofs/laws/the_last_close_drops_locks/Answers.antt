use Rattle.model.proofs.DescriptorCalls.{last_close}
use Rattle.model.proofs.laws.the_last_close_drops_locks.Goals as goal

pub returns : goal.returns
returns c = last_close
