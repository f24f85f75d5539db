use Rattle.intervals.proofs.SearchLaws.{first_is_first}
use Rattle.intervals.proofs.laws.first_is_first.Goals as goal

pub returns : goal.returns
returns c = first_is_first
