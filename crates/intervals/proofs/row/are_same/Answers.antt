use Rattle.intervals.proofs.Same.{eq_is_one}
use Rattle.intervals.proofs.row.are_same.Goals as goal

pub returns : goal.returns
returns g c = rw c.eq.ensures (eq_is_one g.V.PartialEq.eq g.met.V.Exact.exact g.met.V.Eq.laws.refl _ _)
