use Rattle.intervals.specs.rule.Bytes.{IsBarred}
use Rattle.intervals.proofs.SpanLaws.{largest_is_one}
use Rattle.intervals.proofs.laws.largest_is_one.Goals as goal

pub returns : goal.returns
returns g c f bar required within s t order one other = largest_is_one (IsBarred f bar) required within order s t one other
