use Rattle.token_set.proofs.ReleaseLaws.{released_is_clear}
use Rattle.token_set.proofs.laws.what_is_released_is_clear.Goals as goal

pub returns : goal.returns
returns c = released_is_clear
