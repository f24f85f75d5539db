use Rattle.std.proofs.Common.{◌++◌, length}
use Rattle.intervals.specs.code.Parts.{all_runs, row_runs}
use Rattle.intervals.proofs.SameRows.{AreLeft}
use Rattle.intervals.proofs.row.Row.has_runs_of.Given as goal

abbrev pub invariant-loop-run : goal.invariant-loop-run
invariant-loop-run g l = AreLeft (row_runs l.self) (row_runs l.other) l.runs l.parts l.others l.behind

abbrev pub decreases-loop-run : goal.decreases-loop-run
decreases-loop-run g l = length (l.runs ++ all_runs l.parts)
