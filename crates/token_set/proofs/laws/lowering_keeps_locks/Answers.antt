use Rattle.token_set.proofs.ReleaseLaws.{lowering_keeps_locks}
use Rattle.token_set.proofs.laws.lowering_keeps_locks.Goals as goal

pub returns : goal.returns
returns c = lowering_keeps_locks
