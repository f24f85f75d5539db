use Rattle.model.proofs.ReadOnly.{only_done_change}
use Rattle.model.proofs.laws.only_done_calls_change.Goals as goal

pub returns : goal.returns
returns c = only_done_change
