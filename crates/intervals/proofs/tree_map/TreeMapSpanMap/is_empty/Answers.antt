use Rattle.std.proofs.Common.{eq-eqb, arith}
use Rattle.std.proofs.lemmas.Bool.{eqb-true}
use Rattle.intervals.proofs.Find.{nothing_is_empty}
use Rattle.intervals.proofs.Runs.{at-below}
use Rattle.intervals.proofs.tree_map.TreeMapSpanMap.is_empty.Goals as goal

pub returns-clause-empty : goal.returns-clause-empty
returns-clause-empty g c =
    let both = nothing_is_empty _ c.self.invariant.0 in
    rw (← c.self.view_is) (λ t. both.1 (let none = eqb-true _ _ t in omega (arith, c.self.invariant.3)), λ e. eq-eqb _ _ (omega (arith, both.0 e, c.self.invariant.3)))

pub returns-clause-bounded : goal.returns-clause-bounded
returns-clause-bounded g c b lt = rw (← c.self.view_is) (at-below _ b _ c.self.invariant.1 (omega arith))
