use Rattle.token_set.proofs.ReleaseLaws.{lowering_lowers}
use Rattle.token_set.proofs.laws.lowering_lowers.Goals as goal

pub returns : goal.returns
returns c = lowering_lowers
