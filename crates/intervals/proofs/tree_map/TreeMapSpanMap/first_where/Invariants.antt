use Rattle.std.proofs.Common.{◌++◌, length}
use Rattle.intervals.specs.code.Parts.{all_runs, AreSome}
use Rattle.intervals.proofs.RowReads.{IsLeft}
use Rattle.intervals.proofs.tree_map.TreeMapSpanMap.first_where.Given as goal

-- the barred bytes of the span are in the runs that are left
abbrev pub invariant-loop-run : goal.invariant-loop-run
invariant-loop-run g l = record { some : AreSome l.parts; left : IsLeft l.self (l.runs ++ all_runs l.parts) l.bar (record { lo = l.span-inside.lo; hi = l.span-inside.hi }) }

abbrev pub decreases-loop-run : goal.decreases-loop-run
decreases-loop-run g l = length (l.runs ++ all_runs l.parts)
