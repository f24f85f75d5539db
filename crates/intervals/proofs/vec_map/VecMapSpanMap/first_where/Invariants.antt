use Rattle.std.proofs.Common.{drop}
use Rattle.intervals.proofs.Find.{BarredLeft}
use Rattle.intervals.proofs.vec_map.VecMapSpanMap.first_where.Given as goal

-- the barred bytes of the span are in the runs that are left
abbrev pub invariant-loop-run : goal.invariant-loop-run
invariant-loop-run g l = BarredLeft l.rest (drop l.run-index l.rest) l.bar (record { lo = l.span-inside.lo; hi = l.span-inside.hi })
