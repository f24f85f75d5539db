use Rattle.lock_table.proofs.BlockerLemmas.{lowest_one}
use Rattle.lock_table.proofs.laws.lowest_blocker_is_one.Goals as goal

pub returns : goal.returns
returns c = lowest_one
