use Rattle.intervals.proofs.SpanSearch.{largest_is_largest}
use Rattle.intervals.proofs.laws.largest_is_largest.Goals as goal

pub returns : goal.returns
returns c = largest_is_largest
