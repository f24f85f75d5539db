use Rattle.token_set.proofs.ReleaseLaws.{gave_up_is_one}
use Rattle.token_set.proofs.laws.gave_up_is_one.Goals as goal

pub returns : goal.returns
returns c = gave_up_is_one
