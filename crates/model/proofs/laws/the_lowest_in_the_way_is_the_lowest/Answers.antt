use Rattle.model.proofs.WayLaws.{lowest_in_way_is_lowest}
use Rattle.model.proofs.laws.the_lowest_in_the_way_is_the_lowest.Goals as goal

pub returns : goal.returns
returns c = lowest_in_way_is_lowest
