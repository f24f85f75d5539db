use Rattle.merges.proofs.Greedy.{what_is_put_serves as holds}
use Rattle.merges.proofs.laws.what_is_put_serves.Goals as goal

pub returns : goal.returns
returns c = holds
