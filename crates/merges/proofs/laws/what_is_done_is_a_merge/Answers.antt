use Rattle.merges.proofs.Methods.{what_is_done_is_a_merge as holds}
use Rattle.merges.proofs.laws.what_is_done_is_a_merge.Goals as goal

pub returns : goal.returns
returns c = holds
