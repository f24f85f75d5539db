use Rattle.intervals.proofs.Starts.{number_of_runs-length}
use Rattle.intervals.proofs.tree_map.TreeMapSpanMap.starts.Goals as goal

pub returns : goal.returns
returns g c =
    let count = number_of_runs-length g.V.PartialEq.eq g.met.V.Exact.exact g.met.V.Eq.laws.refl _ c.self.invariant.0 c.self.invariant.1 in
    rw (← c.self.view_is, count) c.self.invariant.3
