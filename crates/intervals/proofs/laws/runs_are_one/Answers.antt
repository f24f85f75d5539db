use Rattle.intervals.proofs.SpanLaws.{runs_are_one}
use Rattle.intervals.proofs.laws.runs_are_one.Goals as goal

pub returns : goal.returns
returns g c = runs_are_one
