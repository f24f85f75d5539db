use Rattle.std.proofs.Common.{ap}
use Rattle.intervals.specs.rule.Runs.{value_at}
use Rattle.intervals.proofs.Same.{same_runs}
use Rattle.intervals.proofs.tree_map.TreeMapSpanMap.same.Goals as goal

pub returns : goal.returns
returns g c = rw (← c.self.view_is, ← c.other.view_is) (
  (λ t. ap value_at (c.same.ensures.0 t)),
  (λ e. c.same.ensures.1 (same_runs _ _ c.self.invariant.0 c.other.invariant.0 (λ b. ap (λ f. f b) e))),
)
