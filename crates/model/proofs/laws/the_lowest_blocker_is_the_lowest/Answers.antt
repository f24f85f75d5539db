use Rattle.model.proofs.BlockerLaws.{lowest_is_lowest}
use Rattle.model.proofs.laws.the_lowest_blocker_is_the_lowest.Goals as goal

pub returns : goal.returns
returns c = lowest_is_lowest
